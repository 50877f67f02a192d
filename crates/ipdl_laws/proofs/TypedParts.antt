-- A part of a typed term is typed at its place, and each test that is met there has one bit.
use Rattle.std.proofs.Common.{◌≡◌, ℕ, zero, suc, ◌+◌, true, false, List, [], ◌∷◌, ◌++◌, length, Some, ap, ◌∙◌, subst, arith, add-zero, add-suc}
use Rattle.std.proofs.lemmas.Bool.Decides.{nat_tests}
use Rattle.std.specs.Prelude.{map, slice_get}
use Rattle.ipdl_term.specs.Interpretations.{Signature}
use Rattle.ipdl_term.specs.Terms.{Expression, literal, variable, outer, application, exclusive, conjunction, negation, concatenation, segment, equality, selection, returning, branching, binding, assignment, parallel, hiding, Term, protocol_term, reaction_term, expression_term}
use Rattle.ipdl_term.specs.Typing.{scope_with, HasWidth}
use Rattle.ipdl_term.specs.Variables.{lifted_number, lifted_expression}
use Rattle.ipdl_term.specs.Places.{term_at}
use Rattle.ipdl_term.specs.Surroundings.{Condition, lifted_condition, Surroundings, outermost, in_arm, under_binder, around, IsTypedAt, AreTests}
use Rattle.ipdl_laws.proofs.Substitution.{lifted_number-all}

-- ---- lifted expressions

-- a number behind extra ones
slice_get_past : (extra widths : List ℕ) (n : ℕ) → slice_get (extra ++ widths) (n + length extra) ≡ slice_get widths n
slice_get_past [] widths n = rw add-zero
slice_get_past (v ∷ extra) widths n = rw (add-suc n (length extra)) (slice_get_past extra widths n)

-- the width of a lifted variable
slice_get-lifted : (near extra widths : List ℕ) (n : ℕ) → slice_get (near ++ (extra ++ widths)) (lifted_number (length near) (length extra) n) ≡ slice_get (near ++ widths) n
slice_get-lifted [] extra widths n = ap (slice_get (extra ++ widths)) (lifted_number-all (length extra) n) ∙ slice_get_past extra widths n
slice_get-lifted (v ∷ near) extra widths zero = ap (slice_get (v ∷ (near ++ (extra ++ widths)))) (stays (length near) (length extra))
  where
    stays : (m k : ℕ) → lifted_number (suc m) k zero ≡ zero
    stays m k = grind (arith, nat_tests)
slice_get-lifted (v ∷ near) extra widths (suc n) = ap (slice_get (v ∷ (near ++ (extra ++ widths)))) (further (length near) (length extra) n) ∙ slice_get-lifted near extra widths n
  where
    further : (m k n : ℕ) → lifted_number (suc m) k (suc n) ≡ suc (lifted_number m k n)
    further m k n = grind (arith, nat_tests)

module _ (sig : Signature) where
  -- a lifted expression has its width behind extra binders
  pub HasWidth-lifted : (near extra widths : List ℕ) (e : Expression) (w : ℕ) → HasWidth sig (near ++ widths) e w → HasWidth sig (near ++ (extra ++ widths)) (lifted_expression e (length near) (length extra)) w
  HasWidth-lifted near extra widths (literal bits) w h = h
  HasWidth-lifted near extra widths (variable n) w h = slice_get-lifted near extra widths n ∙ h
  HasWidth-lifted near extra widths (outer n) w h = h
  HasWidth-lifted near extra widths (application f e) w h = (h.0, h.1, HasWidth-lifted near extra widths e _ h.2, h.3)
  HasWidth-lifted near extra widths (exclusive a b) w h = (HasWidth-lifted near extra widths a w h.0, HasWidth-lifted near extra widths b w h.1)
  HasWidth-lifted near extra widths (conjunction a b) w h = (HasWidth-lifted near extra widths a w h.0, HasWidth-lifted near extra widths b w h.1)
  HasWidth-lifted near extra widths (negation a) w h = HasWidth-lifted near extra widths a w h
  HasWidth-lifted near extra widths (concatenation a b) w h = (h.0, h.1, HasWidth-lifted near extra widths a _ h.2, HasWidth-lifted near extra widths b _ h.3, h.4, h.5)
  HasWidth-lifted near extra widths (segment i n a) w h = (h.0, HasWidth-lifted near extra widths a _ h.1, h.2, h.3)
  HasWidth-lifted near extra widths (equality a b) w h = (h.0, HasWidth-lifted near extra widths a _ h.1, HasWidth-lifted near extra widths b _ h.2, h.3)
  HasWidth-lifted near extra widths (selection c a b) w h = (HasWidth-lifted near extra widths c 1 h.0, HasWidth-lifted near extra widths a w h.1, HasWidth-lifted near extra widths b w h.2)

  -- tests under one binder more
  tests_lifted : (w : ℕ) (widths : List ℕ) (conditions : List Condition) → AreTests sig widths conditions → AreTests sig (w ∷ widths) (map lifted_condition conditions)
  tests_lifted w widths [] h = tt
  tests_lifted w widths (c ∷ conditions) h = (HasWidth-lifted [] (w ∷ []) widths c.test 1 h.0, tests_lifted w widths conditions h.1)

-- ---- parts

module _ (sig : Signature) where
  -- the part at a place
  pub typed_part : (s : Surroundings) (whole : Term) → IsTypedAt sig s whole → AreTests sig s.widths s.conditions → (place : List ℕ) (part : Term) → term_at whole place ≡ Some part →
      IsTypedAt sig (around s whole place) part × AreTests sig (around s whole place).widths (around s whole place).conditions
  typed_part s whole typed tests [] part at = let e : whole ≡ part = cc in (subst (IsTypedAt sig s) e typed, tests)
  typed_part s (expression_term (application f a)) typed tests (zero ∷ place) part at = typed_part s (expression_term a) (_, typed.1.2) tests place part at
  typed_part s (expression_term (exclusive a b)) typed tests (zero ∷ place) part at = typed_part s (expression_term a) (_, typed.1.0) tests place part at
  typed_part s (expression_term (exclusive a b)) typed tests (suc zero ∷ place) part at = typed_part s (expression_term b) (_, typed.1.1) tests place part at
  typed_part s (expression_term (conjunction a b)) typed tests (zero ∷ place) part at = typed_part s (expression_term a) (_, typed.1.0) tests place part at
  typed_part s (expression_term (conjunction a b)) typed tests (suc zero ∷ place) part at = typed_part s (expression_term b) (_, typed.1.1) tests place part at
  typed_part s (expression_term (negation a)) typed tests (zero ∷ place) part at = typed_part s (expression_term a) (_, typed.1) tests place part at
  typed_part s (expression_term (concatenation a b)) typed tests (zero ∷ place) part at = typed_part s (expression_term a) (_, typed.1.2) tests place part at
  typed_part s (expression_term (concatenation a b)) typed tests (suc zero ∷ place) part at = typed_part s (expression_term b) (_, typed.1.3) tests place part at
  typed_part s (expression_term (segment i n a)) typed tests (zero ∷ place) part at = typed_part s (expression_term a) (_, typed.1.1) tests place part at
  typed_part s (expression_term (equality a b)) typed tests (zero ∷ place) part at = typed_part s (expression_term a) (_, typed.1.1) tests place part at
  typed_part s (expression_term (equality a b)) typed tests (suc zero ∷ place) part at = typed_part s (expression_term b) (_, typed.1.2) tests place part at
  typed_part s (expression_term (selection c a b)) typed tests (zero ∷ place) part at = typed_part s (expression_term c) (_, typed.1.0) tests place part at
  typed_part s (expression_term (selection c a b)) typed tests (suc zero ∷ place) part at = typed_part s (expression_term a) (_, typed.1.1) tests place part at
  typed_part s (expression_term (selection c a b)) typed tests (suc (suc zero) ∷ place) part at = typed_part s (expression_term b) (_, typed.1.2) tests place part at
  typed_part s (reaction_term (returning e)) typed tests (zero ∷ place) part at = typed_part s (expression_term e) typed tests place part at
  typed_part s (reaction_term (branching e r q)) typed tests (zero ∷ place) part at = typed_part s (expression_term e) (1, typed.1.0) tests place part at
  typed_part s (reaction_term (branching e r q)) typed tests (suc zero ∷ place) part at = typed_part (in_arm s e true) (reaction_term r) (_, typed.1.1) (typed.1.0, tests) place part at
  typed_part s (reaction_term (branching e r q)) typed tests (suc (suc zero) ∷ place) part at = typed_part (in_arm s e false) (reaction_term q) (_, typed.1.2) (typed.1.0, tests) place part at
  typed_part s (reaction_term (binding w r q)) typed tests (zero ∷ place) part at = typed_part s (reaction_term r) (w, typed.1.0) tests place part at
  typed_part s (reaction_term (binding w r q)) typed tests (suc zero ∷ place) part at = typed_part (under_binder s w) (reaction_term q) (_, typed.1.1) (tests_lifted sig w s.widths s.conditions tests) place part at
  typed_part s (protocol_term (assignment c r)) typed tests (zero ∷ place) part at = typed_part (outermost s.scope) (reaction_term r) (typed.0, typed.2) tt place part at
  typed_part s (protocol_term (parallel p q)) typed tests (zero ∷ place) part at = typed_part s (protocol_term p) typed.0 tests place part at
  typed_part s (protocol_term (parallel p q)) typed tests (suc zero ∷ place) part at = typed_part s (protocol_term q) typed.1 tests place part at
  typed_part s (protocol_term (hiding c w p)) typed tests (zero ∷ place) part at = typed_part (record s { scope = scope_with c w s.scope }) (protocol_term p) typed.1 tests place part at
  typed_part s _ typed tests _ part at = cc
