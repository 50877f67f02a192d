-- A map of the values of a width to values of that width that makes different values of different ones leaves each sum over
-- all of them as it is.
use Rattle.std.proofs.Common.{◌≡◌, ◌⊎◌, inl, inr, ℕ, zero, suc, ◌+◌, ◌*◌, ◌^◌, ◌≤◌, Bool, true, false, List, [], ◌∷◌, length, refl, sym, ap, ap₂, ◌∙◌, arith, pow-suc}
use Rattle.ipdl_base.specs.Bits.{same_bits}
use Rattle.ipdl_base.specs.BitsLaws.{same_bits-Decides}
use Rattle.ipdl_laws.proofs.Totals.{total_equal, total-scale, total-scale_right, total-const, total-total}
use Rattle.ipdl_term.specs.Counts.{total, one_if, tape_count}
use Rattle.ipdl_term.specs.Terms.{Value}

-- ---- at most one

one_if-le : (b : Bool) → one_if b ≤ 1
one_if-le true = omega arith
one_if-le false = omega arith

-- either none is counted, or one passes the test
none_or_one : (n : ℕ) (test : List Bool → Bool) → (tape_count n test ≡ 0) ⊎ ((t : List Bool) × (length t ≡ n) × (test t ≡ true))
none_or_one zero test = go (test []) refl
  where
    go : (b : Bool) → test [] ≡ b → (tape_count zero test ≡ 0) ⊎ ((t : List Bool) × (length t ≡ zero) × (test t ≡ true))
    go true e = inr ([], refl, e)
    go false e = inl (ap one_if e)
none_or_one (suc n) test =
    elim (none_or_one n (λ t. test (false ∷ t))) [
      | inr x ↦ inr (false ∷ x.0, ap suc x.1, x.2)
      | inl none ↦ elim (none_or_one n (λ t. test (true ∷ t))) [
        | inr x ↦ inr (true ∷ x.0, ap suc x.1, x.2)
        | inl none' ↦ inl (ap₂ ◌+◌ none none' ∙ omega arith)
      ]
    ]

-- if no two lists pass it, one is counted at most
one_at_most : (n : ℕ) (test : List Bool → Bool) → ((t u : List Bool) → length t ≡ n → length u ≡ n → test t ≡ true → test u ≡ true → t ≡ u) → tape_count n test ≤ 1
one_at_most zero test one = one_if-le (test [])
one_at_most (suc n) test one =
    let zeros_first = one_at_most n (λ t. test (false ∷ t)) (λ t u lt lu pt pu. let e = one (false ∷ t) (false ∷ u) (ap suc lt) (ap suc lu) pt pu in cc) in
    let ones_first = one_at_most n (λ t. test (true ∷ t)) (λ t u lt lu pt pu. let e = one (true ∷ t) (true ∷ u) (ap suc lt) (ap suc lu) pt pu in cc) in
    elim (none_or_one n (λ t. test (false ∷ t))) [
      | inl none ↦ omega (arith, none, ones_first)
      | inr x ↦ elim (none_or_one n (λ t. test (true ∷ t))) [
        | inl none ↦ omega (arith, none, zeros_first)
        | inr y ↦ (let e = one (false ∷ x.0) (true ∷ y.0) (ap suc x.1) (ap suc y.1) x.2 y.2 in cc)
      ]
    ]

-- ---- numbers up to 1 whose sum is as large as can be

total-le : (n : ℕ) (f : List Bool → ℕ) → ((t : List Bool) → length t ≡ n → f t ≤ 1) → total n f ≤ 2 ^ n
total-le zero f h = h [] refl
total-le (suc n) f h =
    let l = total-le n (λ t. f (false ∷ t)) (λ t e. h (false ∷ t) (ap suc e)) in
    let r = total-le n (λ t. f (true ∷ t)) (λ t e. h (true ∷ t) (ap suc e)) in
    rw (pow-suc 2 n) (omega (arith, l, r))

each_is_one : (n : ℕ) (f : List Bool → ℕ) → ((t : List Bool) → length t ≡ n → f t ≤ 1) → 2 ^ n ≤ total n f → (t : List Bool) → length t ≡ n → f t ≡ 1
each_is_one zero f h large [] e = let x = h [] refl in omega (arith, x, large)
each_is_one zero f h large (b ∷ t) e = absurd (omega arith)
each_is_one (suc n) f h large [] e = absurd (omega arith)
each_is_one (suc n) f h large (b ∷ t) e =
    let few_l : (t : List Bool) → length t ≡ n → f (false ∷ t) ≤ 1 = λ t e. h (false ∷ t) (ap suc e) in
    let few_r : (t : List Bool) → length t ≡ n → f (true ∷ t) ≤ 1 = λ t e. h (true ∷ t) (ap suc e) in
    let l = total-le n (λ t. f (false ∷ t)) few_l in
    let r = total-le n (λ t. f (true ∷ t)) few_r in
    let both : 2 ^ n * 2 ≤ total (suc n) f = rw (pow-suc 2 n) at large in
    go b (each_is_one n (λ t. f (false ∷ t)) few_l (omega (arith, both, r)) t (omega arith)) (each_is_one n (λ t. f (true ∷ t)) few_r (omega (arith, both, l)) t (omega arith))
  where
    go : (b : Bool) → f (false ∷ t) ≡ 1 → f (true ∷ t) ≡ 1 → f (b ∷ t) ≡ 1
    go false x y = x
    go true x y = y

-- ---- sums

-- over all values of a width, of which one counts
total-one : (w : ℕ) (v : Value) (f : Value → ℕ) → length v ≡ w → total w (λ u. one_if (same_bits v u) * f u) ≡ f v
total-one zero [] f h = omega arith
total-one zero (b ∷ v) f h = absurd (omega arith)
total-one (suc w) [] f h = absurd (omega arith)
total-one (suc w) (false ∷ v) f h =
    ap₂ ◌+◌ (total-one w v (λ u. f (false ∷ u)) (omega arith)) (total-scale w 0 (λ u. f (true ∷ u))) ∙ omega arith
total-one (suc w) (true ∷ v) f h =
    ap₂ ◌+◌ (total-scale w 0 (λ u. f (false ∷ u))) (total-one w v (λ u. f (true ∷ u)) (omega arith)) ∙ omega arith

module _ (w : ℕ) (map_value : Value → Value) (keeps : (u : Value) → length u ≡ w → length (map_value u) ≡ w) where
  -- how many values lead to a value
  abbrev sources : Value → ℕ
  sources b = tape_count w (λ u. same_bits (map_value u) b)

  -- a sum over the map, by the values that it leads to
  total_by_targets : (g : Value → ℕ) → total w (λ u. g (map_value u)) ≡ total w (λ b. sources b * g b)
  total_by_targets g =
      total_equal w _ (λ u. total w (λ b. one_if (same_bits (map_value u) b) * g b)) (λ u e. sym (total-one w (map_value u) g (keeps u e))) ∙
      total-total w w (λ u b. one_if (same_bits (map_value u) b) * g b) ∙
      total_equal w _ _ (λ b e. total-scale_right w (g b) (λ u. one_if (same_bits (map_value u) b)))

  pub injective_maps_keep_sums : ((u v : Value) → length u ≡ w → length v ≡ w → map_value u ≡ map_value v → u ≡ v) → (g : Value → ℕ) → total w (λ u. g (map_value u)) ≡ total w g
  injective_maps_keep_sums injective g =
      total_by_targets g ∙ total_equal w _ g (λ b e. ap (λ k. k * g b) (each_is_one w sources few enough b e) ∙ omega arith)
    where
      few : (b : Value) → length b ≡ w → sources b ≤ 1
      few b e = one_at_most w (λ u. same_bits (map_value u) b) (λ t u lt lu pt pu.
          injective t u lt lu ((same_bits-Decides (map_value t) b).0 pt ∙ sym ((same_bits-Decides (map_value u) b).0 pu)))

      enough : 2 ^ w ≤ total w sources
      enough =
          let all : 2 ^ w * 1 ≡ total w sources * 1 = sym (total-const w 1) ∙ total_by_targets (λ b. 1) ∙ total-scale_right w 1 sources in
          omega (arith, all)
