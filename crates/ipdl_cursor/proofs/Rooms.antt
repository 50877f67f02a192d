-- Room for the lifts: the tests and the binders on the way to a place are no greater and no more than those of the term.
use Rattle.std.proofs.Common.{ℕ, zero, suc, ◌+◌, ◌≤◌, max, List, [], ◌∷◌, length, Option, Some, None, arith}
use Rattle.std.specs.Prelude.{IfSome}
use Rattle.std.specs.Option.{option_map_or}
use Rattle.ipdl_term.specs.Sizes.{term_binders, greatest_in_term}
use Rattle.ipdl_term.specs.Terms.{application, exclusive, conjunction, negation, concatenation, segment, equality, selection, returning, branching, binding, assignment, parallel, hiding, Term, protocol_term, reaction_term, expression_term}
use Rattle.ipdl_term.specs.Places.{Child, child}
use Rattle.ipdl_cursor.proofs.Steps.{binder_widths-with}
use Rattle.ipdl_cursor.specs.Boundaries.{Boundary, channel, binder, arm, boundary_at, with_boundary, boundaries_to, binder_widths, greatest_in_arms}

-- a child, and what is entered on the way to it
abbrev FitIn : Term → List Boundary → Term → Type 0
FitIn part entered whole =
    (greatest_in_term part ≤ greatest_in_term whole)
    × (greatest_in_arms entered ≤ greatest_in_term whole)
    × (length (binder_widths entered) + term_binders part ≤ term_binders whole)

child_fits : (t : Term) (n : ℕ) → IfSome (child t n) (λ c. FitIn c.part (with_boundary (boundary_at t n) []) t)
child_fits (expression_term (application f a)) zero = (omega arith, omega arith, omega arith)
child_fits (expression_term (exclusive a b)) zero = (omega arith, omega arith, omega arith)
child_fits (expression_term (exclusive a b)) (suc zero) = (omega arith, omega arith, omega arith)
child_fits (expression_term (conjunction a b)) zero = (omega arith, omega arith, omega arith)
child_fits (expression_term (conjunction a b)) (suc zero) = (omega arith, omega arith, omega arith)
child_fits (expression_term (negation a)) zero = (omega arith, omega arith, omega arith)
child_fits (expression_term (concatenation a b)) zero = (omega arith, omega arith, omega arith)
child_fits (expression_term (concatenation a b)) (suc zero) = (omega arith, omega arith, omega arith)
child_fits (expression_term (segment i n a)) zero = (omega arith, omega arith, omega arith)
child_fits (expression_term (equality a b)) zero = (omega arith, omega arith, omega arith)
child_fits (expression_term (equality a b)) (suc zero) = (omega arith, omega arith, omega arith)
child_fits (expression_term (selection c a b)) zero = (omega arith, omega arith, omega arith)
child_fits (expression_term (selection c a b)) (suc zero) = (omega arith, omega arith, omega arith)
child_fits (expression_term (selection c a b)) (suc (suc zero)) = (omega arith, omega arith, omega arith)
child_fits (reaction_term (returning e)) zero = (omega arith, omega arith, omega arith)
child_fits (reaction_term (branching e r s)) zero = (omega arith, omega arith, omega arith)
child_fits (reaction_term (branching e r s)) (suc zero) = (omega arith, omega arith, omega arith)
child_fits (reaction_term (branching e r s)) (suc (suc zero)) = (omega arith, omega arith, omega arith)
child_fits (reaction_term (binding w r s)) zero = (omega arith, omega arith, omega arith)
child_fits (reaction_term (binding w r s)) (suc zero) = (omega arith, omega arith, omega arith)
child_fits (protocol_term (assignment c r)) zero = (omega arith, omega arith, omega arith)
child_fits (protocol_term (parallel p q)) zero = (omega arith, omega arith, omega arith)
child_fits (protocol_term (parallel p q)) (suc zero) = (omega arith, omega arith, omega arith)
child_fits (protocol_term (hiding c w p)) zero = (omega arith, omega arith, omega arith)
child_fits _ _ = tt

greatest_in_arms-with : (b : Option Boundary) (bs : List Boundary) → greatest_in_arms (with_boundary b bs) ≤ max (greatest_in_arms (with_boundary b [])) (greatest_in_arms bs)
greatest_in_arms-with None bs = omega arith
greatest_in_arms-with (Some (channel c w)) bs = omega arith
greatest_in_arms-with (Some (binder w)) bs = omega arith
greatest_in_arms-with (Some (arm e value)) bs = omega arith

-- the boundaries on the way from a term that has no greater tests and no more binders
abbrev AreWithin : ℕ → ℕ → List Boundary → Type 0
AreWithin greatest binders bs = (greatest_in_arms bs ≤ greatest) × (length (binder_widths bs) ≤ binders)

room_in : (o : Option Child) (t : Term) (b : Option Boundary) (place : List ℕ) → IfSome o (λ c. FitIn c.part (with_boundary b []) t) →
    ((c : Child) → AreWithin (greatest_in_term c.part) (term_binders c.part) (boundaries_to c.part place)) →
    AreWithin (greatest_in_term t) (term_binders t) (option_map_or (λ c. with_boundary b (boundaries_to c.part place)) o [])
room_in None t b place fits deeper = (omega arith, omega arith)
room_in (Some c) t b place fits deeper =
    let inner = deeper c in
    let most = greatest_in_arms-with b (boundaries_to c.part place) in
    let all = binder_widths-with b (boundaries_to c.part place) in
    (omega arith, omega arith)

pub room : (t : Term) (place : List ℕ) → (greatest_in_arms (boundaries_to t place) ≤ greatest_in_term t) × (length (binder_widths (boundaries_to t place)) ≤ term_binders t)
room t [] = (omega arith, omega arith)
room t (n ∷ place) = room_in (child t n) t (boundary_at t n) place (child_fits t n) (λ c. room c.part place)
