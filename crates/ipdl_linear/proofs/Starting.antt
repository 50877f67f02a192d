-- The first three entries: the empty form, the atom 1 and its form.
use Rattle.std.proofs.Common.{◌≡◌, ◌⊎◌, inl, inr, ℕ, zero, suc, List, [], ◌∷◌, ◌++◌, Some, refl, sym, ap, ◌∙◌, subst}
use Rattle.std.specs.Prelude.{slice_get}
use Rattle.ipdl_linear.specs.Entries.{Entry, one_entry, sum_entry, IsNumbering, IsAdding}
use Rattle.ipdl_linear.specs.Numbers.{IsIncreasing}

-- an entry that was not there is put last
put_last : (t u : List Entry) (n : ℕ) (e : Entry) → ((k : ℕ) → slice_get t k ≡ Some e → ⊥) → IsAdding t u n e → u ≡ t ++ e ∷ []
put_last t u n e new added = go added.grown
  where
    go : (u ≡ t) ⊎ (u ≡ t ++ e ∷ []) → u ≡ t ++ e ∷ []
    go (inl same) = absurd (new n (ap (λ x. slice_get x n) (sym same) ∙ added.there))
    go (inr more) = more

abbrev first : List Entry
first = sum_entry [] ∷ []

abbrev second : List Entry
second = sum_entry [] ∷ one_entry ∷ []

abbrev third : List Entry
third = sum_entry [] ∷ one_entry ∷ sum_entry (1 ∷ []) ∷ []

none_at_all : (e : Entry) (k : ℕ) → slice_get [] k ≡ Some e → ⊥
none_at_all e k h = cc

not_in_first : (k : ℕ) → slice_get first k ≡ Some one_entry → ⊥
not_in_first zero h = cc
not_in_first (suc k) h = cc

place_in_second : (k : ℕ) → slice_get second k ≡ Some one_entry → k ≡ 1
place_in_second zero h = cc
place_in_second (suc zero) h = refl
place_in_second (suc (suc k)) h = cc

not_in_second : (k : ℕ) → slice_get second k ≡ Some (sum_entry (1 ∷ [])) → ⊥
not_in_second zero h = cc
not_in_second (suc zero) h = cc
not_in_second (suc (suc k)) h = cc

increasing_in_third : (n : ℕ) (ks : List ℕ) → slice_get third n ≡ Some (sum_entry ks) → IsIncreasing ks
increasing_in_third zero ks h = let same : [] ≡ ks = cc in subst IsIncreasing same tt
increasing_in_third (suc zero) ks h = cc
increasing_in_third (suc (suc zero)) ks h = let same : 1 ∷ [] ≡ ks = cc in subst IsIncreasing same (tt, tt)
increasing_in_third (suc (suc (suc n))) ks h = cc

pub IsNumbering-start : (none t u v : List Entry) (k l m : ℕ) (nothing atoms : List ℕ) → none ≡ [] → nothing ≡ [] → atoms ≡ l ∷ [] →
    IsAdding none t k (sum_entry nothing) → IsAdding t u l one_entry → IsAdding u v m (sum_entry atoms) → IsNumbering v
IsNumbering-start none t u v k l m nothing atoms no_entry no_atom one_atom a b c =
    let a' = subst (λ x. IsAdding x t k (sum_entry [])) no_entry (subst (λ x. IsAdding none t k (sum_entry x)) no_atom a) in
    let is_first = put_last [] t k (sum_entry []) (none_at_all (sum_entry [])) a' in
    let b' = subst (λ x. IsAdding x u l one_entry) is_first b in
    let is_second = put_last first u l one_entry not_in_first b' in
    let place = place_in_second l (ap (λ x. slice_get x l) (sym is_second) ∙ b.there) in
    let c' = subst (λ x. IsAdding second v m (sum_entry x)) (one_atom ∙ ap (λ x. x ∷ []) place) (subst (λ x. IsAdding x v m (sum_entry atoms)) is_second c) in
    let is_third = put_last second v m (sum_entry (1 ∷ [])) not_in_second c' in
    record {
      different = c.different;
      increasing = λ n ks h. increasing_in_third n ks (ap (λ x. slice_get x n) (sym is_third) ∙ h);
      nothing_there = ap (λ x. slice_get x 0) is_third;
      one_there = ap (λ x. slice_get x 1) is_third;
      one_form_there = ap (λ x. slice_get x 2) is_third;
    }
