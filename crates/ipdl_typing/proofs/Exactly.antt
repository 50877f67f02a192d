-- No check fails exactly where the typing relation holds.
use Rattle.std.proofs.Common.{◌≡◌, ℕ, ◌+◌, ◌==◌, nat_le, true, false, Bool, List, [], ◌∷◌, ◌++◌, slice_get, Option, Some, None, refl, subst}
use Rattle.std.specs.Prelude.{is_some, unwrap_or}
use Rattle.std.proofs.lemmas.Bool.{eqb-true, leb-true, false≢true}
use Rattle.ipdl_term.specs.Terms.{Expression, literal, variable, outer, application, exclusive, conjunction, negation, concatenation, segment, equality, selection, Reaction, returning, flipping, reading, branching, binding}
use Rattle.ipdl_term.specs.Interpretations.{SymbolShape, Signature}
use Rattle.ipdl_term.specs.Typing.{Scope, HasWidth, GivesWidth}
use Rattle.ipdl_typing.specs.Checks.{Cause, width, unbound, no_symbol, unwritten, checked, child, symbol_to, symbol_from, has_width, expression_width, expression_failures, gives_width, reaction_width, reaction_failures}

-- ---- no failure in a list of failures

-- two lists that make an empty one are empty
pub append-clean : {X : Type 0} (xs ys : List X) → xs ++ ys ≡ [] → (xs ≡ []) × (ys ≡ [])
append-clean [] ys clean = (refl, clean)
append-clean (x ∷ xs) ys clean = cc

-- a check without a failure holds
pub checked-clean : (b : Bool) (path : List ℕ) (cause : Cause) → checked b path cause ≡ [] → b ≡ true
checked-clean true path cause clean = refl
checked-clean false path cause clean = cc

-- ---- values that may be there

-- a value that is there is the one that stands in for none
pub some_from_is_some : (o : Option ℕ) → is_some o ≡ true → o ≡ Some (unwrap_or o 0)
some_from_is_some None is = absurd (false≢true is)
some_from_is_some (Some n) is = refl

-- ---- expressions

-- the width of a child is the wanted one
width_is : (sig : Signature) (widths path : List ℕ) (e : Expression) (want : ℕ) → has_width sig widths path e want ≡ [] → HasWidth sig widths e (expression_width sig widths e) → HasWidth sig widths e want
width_is sig widths path e want clean typed =
    subst (HasWidth sig widths e) (eqb-true (expression_width sig widths e) want (checked-clean (expression_width sig widths e == want) path (width want (expression_width sig widths e)) clean)) typed

-- a symbol that is there, at an argument of its width
application_typed : (sig : Signature) (widths : List ℕ) (f : ℕ) (e : Expression) (o : Option SymbolShape) → slice_get sig f ≡ o → is_some o ≡ true → HasWidth sig widths e (symbol_from o) → HasWidth sig widths (application f e) (symbol_to o)
application_typed sig widths f e None at is typed = absurd (false≢true is)
application_typed sig widths f e (Some s) at is typed = (s, at, typed, refl)

-- an expression without failures has the width that the checks compute
pub HasWidth-clean : (sig : Signature) (widths path : List ℕ) (e : Expression) → expression_failures sig widths path e ≡ [] → HasWidth sig widths e (expression_width sig widths e)
HasWidth-clean sig widths path (literal bits) clean = refl
HasWidth-clean sig widths path (variable n) clean =
    some_from_is_some (slice_get widths n) (checked-clean (is_some (slice_get widths n)) path (unbound n) clean)
HasWidth-clean sig widths path (outer n) clean = cc
HasWidth-clean sig widths path (application f e) clean =
    let o = slice_get sig f in
    let parts = append-clean (checked (is_some (slice_get sig f)) path (no_symbol f) ++ expression_failures sig widths (child path 0) e) (has_width sig widths (child path 0) e (symbol_from (slice_get sig f))) clean in
    let front = append-clean (checked (is_some (slice_get sig f)) path (no_symbol f)) (expression_failures sig widths (child path 0) e) parts.0 in
    application_typed sig widths f e (slice_get sig f) refl (checked-clean (is_some (slice_get sig f)) path (no_symbol f) front.0) (width_is sig widths (child path 0) e (symbol_from (slice_get sig f)) parts.1 (HasWidth-clean sig widths (child path 0) e front.1))
HasWidth-clean sig widths path (exclusive a b) clean =
    let parts = append-clean (expression_failures sig widths (child path 0) a ++ expression_failures sig widths (child path 1) b) (has_width sig widths (child path 1) b (expression_width sig widths a)) clean in
    let front = append-clean (expression_failures sig widths (child path 0) a) (expression_failures sig widths (child path 1) b) parts.0 in
    (HasWidth-clean sig widths (child path 0) a front.0, width_is sig widths (child path 1) b (expression_width sig widths a) parts.1 (HasWidth-clean sig widths (child path 1) b front.1))
HasWidth-clean sig widths path (conjunction a b) clean =
    let parts = append-clean (expression_failures sig widths (child path 0) a ++ expression_failures sig widths (child path 1) b) (has_width sig widths (child path 1) b (expression_width sig widths a)) clean in
    let front = append-clean (expression_failures sig widths (child path 0) a) (expression_failures sig widths (child path 1) b) parts.0 in
    (HasWidth-clean sig widths (child path 0) a front.0, width_is sig widths (child path 1) b (expression_width sig widths a) parts.1 (HasWidth-clean sig widths (child path 1) b front.1))
HasWidth-clean sig widths path (negation a) clean = HasWidth-clean sig widths (child path 0) a clean
HasWidth-clean sig widths path (concatenation a b) clean =
    let sum = expression_width sig widths a + expression_width sig widths b in
    let parts = append-clean (expression_failures sig widths (child path 0) a ++ expression_failures sig widths (child path 1) b) (checked (nat_le (expression_width sig widths a + expression_width sig widths b) 128) path (width 128 (expression_width sig widths a + expression_width sig widths b))) clean in
    let front = append-clean (expression_failures sig widths (child path 0) a) (expression_failures sig widths (child path 1) b) parts.0 in (
      expression_width sig widths a,
      expression_width sig widths b,
      HasWidth-clean sig widths (child path 0) a front.0,
      HasWidth-clean sig widths (child path 1) b front.1,
      refl,
      leb-true (expression_width sig widths a + expression_width sig widths b) 128 (checked-clean (nat_le (expression_width sig widths a + expression_width sig widths b) 128) path (width 128 (expression_width sig widths a + expression_width sig widths b)) parts.1),
    )
HasWidth-clean sig widths path (segment i n a) clean =
    let parts = append-clean (expression_failures sig widths (child path 0) a) (checked (nat_le (i + n) (expression_width sig widths a)) (child path 0) (width (i + n) (expression_width sig widths a))) clean in (
      expression_width sig widths a,
      HasWidth-clean sig widths (child path 0) a parts.0,
      leb-true (i + n) (expression_width sig widths a) (checked-clean (nat_le (i + n) (expression_width sig widths a)) (child path 0) (width (i + n) (expression_width sig widths a)) parts.1),
      refl,
    )
HasWidth-clean sig widths path (equality a b) clean =
    let parts = append-clean (expression_failures sig widths (child path 0) a ++ expression_failures sig widths (child path 1) b) (has_width sig widths (child path 1) b (expression_width sig widths a)) clean in
    let front = append-clean (expression_failures sig widths (child path 0) a) (expression_failures sig widths (child path 1) b) parts.0 in
    (expression_width sig widths a, HasWidth-clean sig widths (child path 0) a front.0, width_is sig widths (child path 1) b (expression_width sig widths a) parts.1 (HasWidth-clean sig widths (child path 1) b front.1), refl)
HasWidth-clean sig widths path (selection c a b) clean =
    let test_failures = expression_failures sig widths (child path 0) c in
    let test_width = has_width sig widths (child path 0) c 1 in
    let left_failures = expression_failures sig widths (child path 1) a in
    let right_failures = expression_failures sig widths (child path 2) b in
    let right_width = has_width sig widths (child path 2) b (expression_width sig widths a) in
    let all = append-clean (test_failures ++ test_width ++ left_failures ++ right_failures) right_width clean in
    let to_right = append-clean (test_failures ++ test_width ++ left_failures) right_failures all.0 in
    let to_left = append-clean (test_failures ++ test_width) left_failures to_right.0 in
    let of_test = append-clean test_failures test_width to_left.0 in (
      width_is sig widths (child path 0) c 1 of_test.1 (HasWidth-clean sig widths (child path 0) c of_test.0),
      HasWidth-clean sig widths (child path 1) a to_left.1,
      width_is sig widths (child path 2) b (expression_width sig widths a) all.1 (HasWidth-clean sig widths (child path 2) b to_right.1),
    )

-- ---- reactions

-- the width of a child's values is the wanted one
pub gives_width_is : (sig : Signature) (scope : Scope) (widths path : List ℕ) (r : Reaction) (want : ℕ) → gives_width sig scope widths path r want ≡ [] → GivesWidth sig scope widths r (reaction_width sig scope widths r) → GivesWidth sig scope widths r want
gives_width_is sig scope widths path r want clean typed =
    subst (GivesWidth sig scope widths r) (eqb-true (reaction_width sig scope widths r) want (checked-clean (reaction_width sig scope widths r == want) path (width want (reaction_width sig scope widths r)) clean)) typed

-- a reaction without failures gives the width that the checks compute
pub GivesWidth-clean : (sig : Signature) (scope : Scope) (widths path : List ℕ) (r : Reaction) → reaction_failures sig scope widths path r ≡ [] → GivesWidth sig scope widths r (reaction_width sig scope widths r)
GivesWidth-clean sig scope widths path (returning e) clean = HasWidth-clean sig widths (child path 0) e clean
GivesWidth-clean sig scope widths path (flipping w) clean =
    (refl, leb-true w 128 (checked-clean (nat_le w 128) path (width 128 w) clean))
GivesWidth-clean sig scope widths path (reading c) clean =
    some_from_is_some (scope c) (checked-clean (is_some (scope c)) path (unwritten c) clean)
GivesWidth-clean sig scope widths path (branching e r s) clean =
    let test_failures = expression_failures sig widths (child path 0) e in
    let test_width = has_width sig widths (child path 0) e 1 in
    let left_failures = reaction_failures sig scope widths (child path 1) r in
    let right_failures = reaction_failures sig scope widths (child path 2) s in
    let right_width = gives_width sig scope widths (child path 2) s (reaction_width sig scope widths r) in
    let all = append-clean (test_failures ++ test_width ++ left_failures ++ right_failures) right_width clean in
    let to_right = append-clean (test_failures ++ test_width ++ left_failures) right_failures all.0 in
    let to_left = append-clean (test_failures ++ test_width) left_failures to_right.0 in
    let of_test = append-clean test_failures test_width to_left.0 in (
      width_is sig widths (child path 0) e 1 of_test.1 (HasWidth-clean sig widths (child path 0) e of_test.0),
      GivesWidth-clean sig scope widths (child path 1) r to_left.1,
      gives_width_is sig scope widths (child path 2) s (reaction_width sig scope widths r) all.1 (GivesWidth-clean sig scope widths (child path 2) s to_right.1),
    )
GivesWidth-clean sig scope widths path (binding w r s) clean =
    let left_failures = reaction_failures sig scope widths (child path 0) r in
    let left_width = gives_width sig scope widths (child path 0) r w in
    let right_failures = reaction_failures sig scope (w ∷ widths) (child path 1) s in
    let to_left = append-clean (left_failures ++ left_width) right_failures clean in
    let of_test = append-clean left_failures left_width to_left.0 in
    (gives_width_is sig scope widths (child path 0) r w of_test.1 (GivesWidth-clean sig scope widths (child path 0) r of_test.0), GivesWidth-clean sig scope (w ∷ widths) (child path 1) s to_left.1)
