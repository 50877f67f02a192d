-- The first difference of a question is what its name says: the least number that passes the test, and the agreement
-- below it.
use Rattle.std.proofs.Common.{◌≡◌, ℕ, zero, suc, ◌+◌, ◌<◌, ◌≤◌, ◌^◌, Bool, true, false, not, ◌&&◌, List, [], ◌∷◌, length, reverse, map, Option, Some, None, refl, sym, ap, ◌∙◌, subst, inl, inr, arith}
use Rattle.std.proofs.lemmas.Bool.{cases_lt}
use Rattle.std.proofs.lemmas.Bool.Decides.{nat_tests}
use Rattle.std.specs.Prelude.{◌↔◌, find, option_map, nat_eq}
use Rattle.std.specs.List.{range_with_len}
use Rattle.ipdl_base.specs.Bits.{same_bits}
use Rattle.ipdl_base.specs.BitsLaws.{same_bits-Decides}
use Rattle.ipdl_term.specs.Interpretations.{Interpretation, evaluation, zeros}
use Rattle.ipdl_term.specs.Surroundings.{Condition, Meets}
use Rattle.ipdl_term.specs.Terms.{Value}
use Rattle.ipdl_truth.proofs.Bits.{differ_told}
use Rattle.ipdl_truth.proofs.Enumerations.{agree_at, differ_at, agree_everywhere}
use Rattle.ipdl_truth.proofs.FreeValues.{by_test, valued-reading}
use Rattle.ipdl_truth.specs.Agreement.{IsAllowed, AgreeOn, AgreeEverywhere, DifferFirstAt}
use Rattle.ipdl_truth.specs.FirstDifference.{values_at, are_met, is_difference, first_difference}
use Rattle.ipdl_truth.specs.FreeVariables.{reading}
use Rattle.ipdl_truth.specs.Questions.{Question, expressions_in, free_variables, free_bits, valuation_of}
use Rattle.ipdl_truth.specs.Tables.{tables_of}
use Rattle.ipdl_truth.specs.Valuations.{valued}

-- ---- the first of the numbers that pass a test

module _ (p : ℕ → Bool) where
  -- none from here on and below there passes
  abbrev NonePasses : (from below : ℕ) → Type 0
  NonePasses from below = (m : ℕ) → from ≤ m → m < below → p m ≡ false

  record IsFirst (from below n : ℕ) : Type 0 where
    pub within : n < below
    pub passes : p n ≡ true
    pub none : NonePasses from n

  -- what a search finds
  abbrev Finds : (from below : ℕ) → Option ℕ → Type 0
  Finds from below None = NonePasses from below
  Finds from below (Some n) = IsFirst from below n

  none_more : (from below : ℕ) → p from ≡ false → NonePasses (from + 1) below → NonePasses from below
  none_more from below fails none m low high =
      by_test (nat_eq from m)
      (λ t. let e : from ≡ m = grind (arith, nat_tests) in sym (ap p e) ∙ fails)
      (λ f. none m (grind (arith, nat_tests)) high)

  finds_more : (from below : ℕ) (o : Option ℕ) → p from ≡ false → Finds (from + 1) below o → Finds from below o
  finds_more from below None fails found = none_more from below fails found
  finds_more from below (Some n) fails found =
      record { within = found.within; passes = found.passes; none = none_more from n fails found.none }

  find-first : (from below count : ℕ) → from + count ≡ below → Finds from below (find p (range_with_len from count))
  find-first from below zero all = λ m low high. absurd (omega arith)
  find-first from below (suc count) all =
      by_test (p from)
      (λ t. rw t (record { within = omega arith; passes = t; none = λ m low high. absurd (omega arith) }))
      (λ f. rw f (finds_more from below (find p (range_with_len (from + 1) count)) f (find-first (from + 1) below count (omega arith))))

-- ---- the tests

-- a test of two that is true is true of both
both : (a b : Bool) → (a && b) ≡ true → (a ≡ true) × (b ≡ true)
both true b e = (refl, e)
both false b e = cc

second : (a b : Bool) → (a && b) ≡ false → a ≡ true → b ≡ false
second true b e k = e
second false b e k = cc

Meets-are_met : (J : Interpretation) (env : List Value) (conditions : List Condition) → are_met J env conditions ≡ true → Meets J env conditions
Meets-are_met J env [] met = tt
Meets-are_met J env (c ∷ conditions) met =
    let this = same_bits (evaluation J env c.test) (c.value ∷ []) in
    let two = both this (are_met J env conditions) met in
    ((same_bits-Decides (evaluation J env c.test) (c.value ∷ [])).0 two.0, Meets-are_met J env conditions two.1)

are_met-Meets : (J : Interpretation) (env : List Value) (conditions : List Condition) → Meets J env conditions → are_met J env conditions ≡ true
are_met-Meets J env [] met = refl
are_met-Meets J env (c ∷ conditions) met =
    rw ((same_bits-Decides (evaluation J env c.test) (c.value ∷ [])).1 met.0) (are_met-Meets J env conditions met.1)

length-map_zeros : (widths : List ℕ) → length (map zeros widths) ≡ length widths
length-map_zeros [] = refl
length-map_zeros (w ∷ widths) = ap suc (length-map_zeros widths)

-- ---- a question

module _ (q : Question) where
  abbrev AreMetAt : ℕ → Type 0
  AreMetAt n = Meets (tables_of q.sig) (reverse (values_at q n)) q.conditions

  -- whether the two expressions differ at the number, the conditions apart
  abbrev differ : ℕ → Bool
  differ n = not (same_bits (evaluation (tables_of q.sig) (reverse (values_at q n)) q.left) (evaluation (tables_of q.sig) (reverse (values_at q n)) q.right))

  abbrev met : ℕ → Bool
  met n = are_met (tables_of q.sig) (reverse (values_at q n)) q.conditions

  told : (n : ℕ) → (differ n ≡ true → AgreeOn q (values_at q n) → ⊥) × (differ n ≡ false → AgreeOn q (values_at q n))
  told n = differ_told (evaluation (tables_of q.sig) (reverse (values_at q n)) q.left) (evaluation (tables_of q.sig) (reverse (values_at q n)) q.right) (differ n) refl

  met_there : (n : ℕ) → is_difference q n ≡ true → AreMetAt n
  met_there n is = Meets-are_met (tables_of q.sig) (reverse (values_at q n)) q.conditions (both (met n) (differ n) is).0

  differ_there : (n : ℕ) → is_difference q n ≡ true → AgreeOn q (values_at q n) → ⊥
  differ_there n is = (told n).0 (both (met n) (differ n) is).1

  agree_there : (n : ℕ) → is_difference q n ≡ false → AreMetAt n → AgreeOn q (values_at q n)
  agree_there n is meets = (told n).1 (second (met n) (differ n) is (are_met-Meets (tables_of q.sig) (reverse (values_at q n)) q.conditions meets))

  -- where no number below passes, all values that are read as one of them agree
  agree_below : (n : ℕ) → NonePasses (is_difference q) 0 n → (others : List Value) → IsAllowed q others → reading (valuation_of q others) < n → AgreeOn q others
  agree_below n none others allowed less =
      let m = reading (valuation_of q others) in
      agree_at q (map zeros q.widths) m (length-map_zeros q.widths) (agree_there m (none m (omega arith) less)) others allowed refl

  -- ---- first differences

  -- one at most
  least : (v u : List (ℕ × Value)) → DifferFirstAt q v → DifferFirstAt q u → reading v < reading u → ⊥
  least v u d e less =
      let P : List (ℕ × Value) → Type 0 = λ x. reading x < reading u in
      d.differ (e.first d.env d.allowed (subst P (sym d.values) less))

  valued_first : (v : List (ℕ × Value)) → DifferFirstAt q v → valued (free_variables q) (reading v) ≡ v
  valued_first v d =
      ap (λ x. valued (free_variables q) (reading x)) (sym d.values)
      ∙ valued-reading (expressions_in q) q.widths d.env d.allowed.widths
      ∙ d.values

  one_first_difference : (v u : List (ℕ × Value)) → DifferFirstAt q v → DifferFirstAt q u → v ≡ u
  one_first_difference v u d e =
      let same : reading v ≡ reading u = elim (cases_lt (reading v) (reading u)) [
        | inl less ↦ absurd (least v u d e less)
        | inr more ↦ elim (cases_lt (reading u) (reading v)) [
          | inl less ↦ absurd (least u v e d less)
          | inr most ↦ omega arith
        ]
      ] in
      sym (valued_first v d) ∙ ap (valued (free_variables q)) same ∙ valued_first u e

  differs_somewhere : (v : List (ℕ × Value)) → DifferFirstAt q v → AgreeEverywhere q → ⊥
  differs_somewhere v d agree = d.differ (agree d.env d.allowed)

  -- what is found says which of the two holds
  abbrev Says : Option ℕ → Type 0
  Says o =
      ((valuation : List (ℕ × Value)) → (option_map (valued (free_variables q)) o ≡ Some valuation) ↔ DifferFirstAt q valuation)
      × ((option_map (valued (free_variables q)) o ≡ None) ↔ AgreeEverywhere q)

  said : (o : Option ℕ) → Finds (is_difference q) 0 (2 ^ free_bits q) o → Says o
  said None found =
      let agree = agree_everywhere q (agree_below (2 ^ free_bits q) found) in (
        λ v. (λ e. cc, λ d. absurd (differs_somewhere v d agree)),
        (λ e. agree, λ a. refl),
      )
  said (Some n) found =
      let d = differ_at q (map zeros q.widths) n (length-map_zeros q.widths) found.within (met_there n found.passes) (differ_there n found.passes) (agree_below n found.none) in
      let first = valued (free_variables q) n in (
        λ v. (λ e. let k : first ≡ v = cc in subst (DifferFirstAt q) k d, λ other. ap Some (one_first_difference first v d other)),
        (λ e. cc, λ agree. absurd (differs_somewhere first d agree)),
      )

  pub first_difference_exactly : ((valuation : List (ℕ × Value)) → (first_difference q ≡ Some valuation) ↔ DifferFirstAt q valuation) × ((first_difference q ≡ None) ↔ AgreeEverywhere q)
  first_difference_exactly = said (find (is_difference q) (range_with_len 0 (2 ^ free_bits q))) (find-first (is_difference q) 0 (2 ^ free_bits q) (2 ^ free_bits q) (omega arith))
