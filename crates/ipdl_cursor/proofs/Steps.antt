-- One step of a walk over a place, at an index of the place as a loop has it.
use Rattle.std.proofs.Common.{◌≡◌, ℕ, ◌+◌, ◌<◌, List, [], ◌∷◌, ◌++◌, length, get_or, drop, Option, Some, None, refl, ap, sym, ◌∙◌, add-one, drop-cons, append_assoc, arith}
use Rattle.std.proofs.lemmas.List.{append-nil}
use Rattle.std.specs.Prelude.{option_map, option_and_then}
use Rattle.std.specs.Option.{option_map_or}
use Rattle.ipdl_term.specs.Places.{Child, child, term_at}
use Rattle.ipdl_term.specs.Terms.{Term}
use Rattle.ipdl_cursor.specs.Boundaries.{Boundary, channel, binder, arm, boundary_at, with_boundary, boundaries_to, binder_widths}
use Rattle.ipdl_cursor.specs.Children.{child_part}

-- where a child is there, as an option
at_some_child : (rest : List ℕ) (o : Option Child) (u : Term) → option_map (λ c. c.part) o ≡ Some u → option_and_then (λ c. term_at c.part rest) o ≡ term_at u rest
at_some_child rest (Some c) u is = let e : c.part ≡ u = cc in ap (λ t. term_at t rest) e
at_some_child rest None u is = cc

at_no_child : (rest : List ℕ) (o : Option Child) → option_map (λ c. c.part) o ≡ None → option_and_then (λ c. term_at c.part rest) o ≡ None
at_no_child rest (Some c) is = cc
at_no_child rest None is = refl

boundaries_at_some_child : (b : Option Boundary) (rest : List ℕ) (o : Option Child) (u : Term) → option_map (λ c. c.part) o ≡ Some u →
    option_map_or (λ c. with_boundary b (boundaries_to c.part rest)) o [] ≡ with_boundary b (boundaries_to u rest)
boundaries_at_some_child b rest (Some c) u is = let e : c.part ≡ u = cc in ap (λ t. with_boundary b (boundaries_to t rest)) e
boundaries_at_some_child b rest None u is = cc

boundaries_at_no_child : (b : Option Boundary) (rest : List ℕ) (o : Option Child) → option_map (λ c. c.part) o ≡ None →
    option_map_or (λ c. with_boundary b (boundaries_to c.part rest)) o [] ≡ []
boundaries_at_no_child b rest (Some c) is = cc
boundaries_at_no_child b rest None is = refl

-- the rest of a place begins with the number at the index
drop-next : (place : List ℕ) (i : ℕ) → i < length place → drop i place ≡ get_or place i 0 ∷ drop (i + 1) place
drop-next place i within = rw (add-one, drop-cons place i 0)

-- what is left of a place leads from a child to where it led from its parent
pub term_at-ahead : (place : List ℕ) (i : ℕ) (t u : Term) → i < length place → child_part t (get_or place i 0) ≡ Some u →
    term_at u (drop (i + 1) place) ≡ term_at t (drop i place)
term_at-ahead place i t u within is =
    rw (drop-next place i within) (sym (at_some_child (drop (i + 1) place) (child t (get_or place i 0)) u is))

-- and nowhere if there is no such child
pub term_at-no_child : (place : List ℕ) (i : ℕ) (t : Term) → i < length place → child_part t (get_or place i 0) ≡ None → term_at t (drop i place) ≡ None
term_at-no_child place i t within is =
    rw (drop-next place i within) (at_no_child (drop (i + 1) place) (child t (get_or place i 0)) is)

append-with_boundary : (b : Option Boundary) (xs ys : List Boundary) → (xs ++ with_boundary b []) ++ ys ≡ xs ++ with_boundary b ys
append-with_boundary None xs ys = ap (λ zs. zs ++ ys) (append-nil xs)
append-with_boundary (Some b) xs ys = rw append_assoc

-- what was pushed so far, with what is left, stays the same
pub boundaries-pushed : (place : List ℕ) (i : ℕ) (t u : Term) → i < length place → child_part t (get_or place i 0) ≡ Some u →
    (xs ys all : List Boundary) → ys ≡ xs ++ with_boundary (boundary_at t (get_or place i 0)) [] →
    xs ++ boundaries_to t (drop i place) ≡ all → ys ++ boundaries_to u (drop (i + 1) place) ≡ all
boundaries-pushed place i t u within is xs ys all pushed so_far =
    let b = boundary_at t (get_or place i 0) in
    let rest = drop (i + 1) place in
    let here : boundaries_to t (drop i place) ≡ with_boundary b (boundaries_to u rest) =
    rw (drop-next place i within) (boundaries_at_some_child b rest (child t (get_or place i 0)) u is) in
    ap (λ zs. zs ++ boundaries_to u rest) pushed
    ∙ append-with_boundary b xs (boundaries_to u rest)
    ∙ ap (λ zs. xs ++ zs) (sym here)
    ∙ so_far

-- and that is all where the place leaves the term
pub boundaries-stopped : (place : List ℕ) (i : ℕ) (t : Term) → i < length place → child_part t (get_or place i 0) ≡ None →
    (xs all : List Boundary) → xs ++ boundaries_to t (drop i place) ≡ all → xs ≡ all
boundaries-stopped place i t within is xs all so_far =
    let none : boundaries_to t (drop i place) ≡ [] =
    rw (drop-next place i within) (boundaries_at_no_child (boundary_at t (get_or place i 0)) (drop (i + 1) place) (child t (get_or place i 0)) is) in
    sym (append-nil xs) ∙ ap (λ zs. xs ++ zs) (sym none) ∙ so_far

-- ---- binders

pub binder_widths-with : (b : Option Boundary) (bs : List Boundary) → length (binder_widths (with_boundary b bs)) ≡ length (binder_widths (with_boundary b [])) + length (binder_widths bs)
binder_widths-with None bs = omega arith
binder_widths-with (Some (channel c w)) bs = omega arith
binder_widths-with (Some (binder w)) bs = omega arith
binder_widths-with (Some (arm e value)) bs = omega arith

-- those that are entered to a child, and those from there on
pub binders-ahead : (place : List ℕ) (i : ℕ) (t u : Term) → i < length place → child_part t (get_or place i 0) ≡ Some u →
    length (binder_widths (boundaries_to t (drop i place))) ≡ length (binder_widths (with_boundary (boundary_at t (get_or place i 0)) [])) + length (binder_widths (boundaries_to u (drop (i + 1) place)))
binders-ahead place i t u within is =
    let b = boundary_at t (get_or place i 0) in
    let rest = drop (i + 1) place in
    let here : boundaries_to t (drop i place) ≡ with_boundary b (boundaries_to u rest) =
    rw (drop-next place i within) (boundaries_at_some_child b rest (child t (get_or place i 0)) u is) in
    ap (λ bs. length (binder_widths bs)) here ∙ binder_widths-with b (boundaries_to u rest)

-- none where the place leaves the term
pub binders-stopped : (place : List ℕ) (i : ℕ) (t : Term) → i < length place → child_part t (get_or place i 0) ≡ None → length (binder_widths (boundaries_to t (drop i place))) ≡ 0
binders-stopped place i t within is =
    let none : boundaries_to t (drop i place) ≡ [] =
    rw (drop-next place i within) (boundaries_at_no_child (boundary_at t (get_or place i 0)) (drop (i + 1) place) (child t (get_or place i 0)) is) in
    ap (λ bs. length (binder_widths bs)) none
