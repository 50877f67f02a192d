-- Room for the variables of a part at a place, and of one that is written out, with the argument of its rule.
use Rattle.std.proofs.Common.{◌≡◌, ℕ, zero, suc, ◌<◌, ◌≤◌, List, [], ◌∷◌, length, Some, subst, arith}
use Rattle.ipdl_laws.proofs.TypedParts.{typed_part}
use Rattle.ipdl_rules_p.specs.Room as P
use Rattle.ipdl_script.proofs.Fits.{reaction_binders-few, protocol_binders-few, greatest_in_reaction-bound, greatest_in_protocol-bound, greatest_in_rule-settled, greatest_in_reaction-settled, reaction_binders-settled, greatest_in_protocol-settled, protocol_binders-settled}
use Rattle.ipdl_script.specs.Fitting.{WholeFits, StepFits}
use Rattle.ipdl_script.specs.Steps.{Setting, scope_in, around_place}
use Rattle.ipdl_script.specs.TestGroups.{HasRoomFor}
use Rattle.ipdl_term.proofs.WithinLemmas.{IsReactionWithin-typed, IsProtocolWithin-typed}
use Rattle.ipdl_term.specs.Places.{term_at}
use Rattle.ipdl_term.specs.Rules.{Rule}
use Rattle.ipdl_term.specs.Rules as R
use Rattle.ipdl_term.specs.Sizes.{most_nodes, term_nodes, protocol_nodes}
use Rattle.ipdl_term.specs.Steps.{plain, rev}
use Rattle.ipdl_term.specs.Surroundings.{outermost}
use Rattle.ipdl_term.specs.Terms.{application, exclusive, conjunction, negation, concatenation, segment, equality, selection, returning, branching, binding, Protocol, assignment, parallel, hiding, Term, protocol_term, reaction_term, expression_term}
use Rattle.ipdl_term.specs.Variables.{settled_protocol, settled_term}
use Rattle.ipdl_term.specs.Within.{IsProtocolWithin}

-- a part has no more nodes than the whole
term_nodes-part : (whole : Term) (place : List ℕ) (part : Term) → term_at whole place ≡ Some part → term_nodes part ≤ term_nodes whole
term_nodes-part whole [] part at = let e : whole ≡ part = cc in subst (λ t. term_nodes t ≤ term_nodes whole) e (omega arith)
term_nodes-part (expression_term (application f a)) (zero ∷ place) part at = omega (arith, term_nodes-part (expression_term a) place part at)
term_nodes-part (expression_term (exclusive a b)) (zero ∷ place) part at = omega (arith, term_nodes-part (expression_term a) place part at)
term_nodes-part (expression_term (exclusive a b)) (suc zero ∷ place) part at = omega (arith, term_nodes-part (expression_term b) place part at)
term_nodes-part (expression_term (conjunction a b)) (zero ∷ place) part at = omega (arith, term_nodes-part (expression_term a) place part at)
term_nodes-part (expression_term (conjunction a b)) (suc zero ∷ place) part at = omega (arith, term_nodes-part (expression_term b) place part at)
term_nodes-part (expression_term (negation a)) (zero ∷ place) part at = omega (arith, term_nodes-part (expression_term a) place part at)
term_nodes-part (expression_term (concatenation a b)) (zero ∷ place) part at = omega (arith, term_nodes-part (expression_term a) place part at)
term_nodes-part (expression_term (concatenation a b)) (suc zero ∷ place) part at = omega (arith, term_nodes-part (expression_term b) place part at)
term_nodes-part (expression_term (segment i n a)) (zero ∷ place) part at = omega (arith, term_nodes-part (expression_term a) place part at)
term_nodes-part (expression_term (equality a b)) (zero ∷ place) part at = omega (arith, term_nodes-part (expression_term a) place part at)
term_nodes-part (expression_term (equality a b)) (suc zero ∷ place) part at = omega (arith, term_nodes-part (expression_term b) place part at)
term_nodes-part (expression_term (selection c a b)) (zero ∷ place) part at = omega (arith, term_nodes-part (expression_term c) place part at)
term_nodes-part (expression_term (selection c a b)) (suc zero ∷ place) part at = omega (arith, term_nodes-part (expression_term a) place part at)
term_nodes-part (expression_term (selection c a b)) (suc (suc zero) ∷ place) part at = omega (arith, term_nodes-part (expression_term b) place part at)
term_nodes-part (reaction_term (returning e)) (zero ∷ place) part at = omega (arith, term_nodes-part (expression_term e) place part at)
term_nodes-part (reaction_term (branching e r s)) (zero ∷ place) part at = omega (arith, term_nodes-part (expression_term e) place part at)
term_nodes-part (reaction_term (branching e r s)) (suc zero ∷ place) part at = omega (arith, term_nodes-part (reaction_term r) place part at)
term_nodes-part (reaction_term (branching e r s)) (suc (suc zero) ∷ place) part at = omega (arith, term_nodes-part (reaction_term s) place part at)
term_nodes-part (reaction_term (binding w r s)) (zero ∷ place) part at = omega (arith, term_nodes-part (reaction_term r) place part at)
term_nodes-part (reaction_term (binding w r s)) (suc zero ∷ place) part at = omega (arith, term_nodes-part (reaction_term s) place part at)
term_nodes-part (protocol_term (assignment c r)) (zero ∷ place) part at = omega (arith, term_nodes-part (reaction_term r) place part at)
term_nodes-part (protocol_term (parallel p q)) (zero ∷ place) part at = omega (arith, term_nodes-part (protocol_term p) place part at)
term_nodes-part (protocol_term (parallel p q)) (suc zero ∷ place) part at = omega (arith, term_nodes-part (protocol_term q) place part at)
term_nodes-part (protocol_term (hiding c w p)) (zero ∷ place) part at = omega (arith, term_nodes-part (protocol_term p) place part at)
term_nodes-part _ _ part at = cc

-- a protocol with few binders, each variable of which has one
closed_has_room : (n : ℕ) (rule : Rule) (p : Protocol) → IsProtocolWithin n p → protocol_nodes p ≤ most_nodes → P.HasRoom rule p
closed_has_room n R.drop p within small = omega (arith, greatest_in_protocol-bound n p within, protocol_binders-few p, small)
closed_has_room n (R.subsume c w) p within small = omega (arith, greatest_in_protocol-bound n p within, protocol_binders-few p, small)
closed_has_room n _ p within small = tt

-- a part of a whole that fits
module _ (x : Setting) (before : Protocol) (place : List ℕ) (rule : Rule) (depth : ℕ) (whole : WholeFits x before) (fits : StepFits (plain place rule)) (is : depth ≡ length (around_place x before place).widths) (few : depth < most_nodes) where
  pub part_has_room : (part : Term) → term_at (protocol_term before) place ≡ Some part → HasRoomFor depth rule part
  part_has_room (protocol_term p) at =
      let typed = (typed_part x.sig (outermost (scope_in x)) (protocol_term before) whole.typed.typed tt place (protocol_term p) at).0 in
      closed_has_room (length x.sig) rule p (IsProtocolWithin-typed x.sig (around_place x before place).scope p typed) (omega (arith, term_nodes-part (protocol_term before) place (protocol_term p) at, whole.limits.nodes))
  part_has_room (reaction_term r) at =
      let typed = (typed_part x.sig (outermost (scope_in x)) (protocol_term before) whole.typed.typed tt place (reaction_term r) at).0 in
      let s = around_place x before place in
      let bound = greatest_in_reaction-bound (length x.sig) (length s.widths) r (IsReactionWithin-typed x.sig s.scope s.widths r typed.0 typed.1) in
      omega (arith, fits, is, few, bound, reaction_binders-few r, term_nodes-part (protocol_term before) place (reaction_term r) at, whole.limits.nodes, greatest_in_rule-settled depth rule)
  part_has_room (expression_term e) at = tt

-- one that is written out
module _ (place : List ℕ) (rule : Rule) (depth : ℕ) (few : depth < most_nodes) where
  written_protocol : (p : Protocol) (named : Rule) → StepFits (rev place rule (protocol_term p)) → P.HasRoom named (settled_protocol depth p)
  written_protocol p R.drop fits = omega (arith, fits, few, greatest_in_protocol-settled depth p, protocol_binders-settled depth p)
  written_protocol p (R.subsume c w) fits = omega (arith, fits, few, greatest_in_protocol-settled depth p)
  written_protocol p _ fits = tt

  pub written_has_room : (term : Term) → StepFits (rev place rule term) → HasRoomFor depth rule (settled_term depth term)
  written_has_room (protocol_term p) fits = written_protocol p rule fits
  written_has_room (reaction_term r) fits =
      omega (arith, fits, few, greatest_in_rule-settled depth rule, greatest_in_reaction-settled depth r, reaction_binders-settled depth r)
  written_has_room (expression_term e) fits = tt
