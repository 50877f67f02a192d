-- What numbers stand for as entries are added: atoms and forms, their sums, and products.
use Rattle.std.proofs.Common.{◌≡◌, ◌⊎◌, inl, inr, ℕ, zero, suc, Bool, true, false, not, ◌&&◌, ◌||◌, List, [], ◌∷◌, ◌++◌, Option, Some, None, if◌then◌else◌, refl, sym, ap, ap₂, ◌∙◌, subst}
use Rattle.std.specs.Prelude.{min, max, nat_eq, slice_get}
use Rattle.ipdl_base.specs.Bits.{xor}
use Rattle.ipdl_linear.proofs.Booleans.{by_test, and_true, or_true}
use Rattle.ipdl_linear.proofs.Numbers.{equal, equal_itself, nat_eq_turned, unequal, has-merged, IsIncreasing-merged}
use Rattle.ipdl_linear.proofs.Standing.{AtomsStand-same, but-other, AtomsStand-kept, FormStands-kept, some_atom-has, without-but, form_number, same_atom-number}
use Rattle.ipdl_linear.specs.Entries.{Entry, one_entry, variable_entry, product_entry, zero_entry, symbol_entry, sum_entry, but, AtomStands, AtomsStand, FormStands, IsNumbering, Keeps, IsAdding, IsGrowth, IsSingle, Combines, atoms_of}
use Rattle.ipdl_linear.specs.LinearForms.{Atom, one, product, Form, nothing, adding, is_nothing, some_atom, without, same_atom, single, one_form, is_one, toggled, plus, times}
use Rattle.ipdl_linear.specs.Numbers.{has, IsIncreasing, merged}

-- ---- places in a list with one more

at_front : (xs : List Entry) (y : Entry) (k : ℕ) (x : Entry) → slice_get xs k ≡ Some x → slice_get (xs ++ y ∷ []) k ≡ Some x
at_front [] y k x h = cc
at_front (z ∷ xs) y zero x h = h
at_front (z ∷ xs) y (suc k) x h = at_front xs y k x h

front_or_end : (xs : List Entry) (y : Entry) (k : ℕ) (x : Entry) → slice_get (xs ++ y ∷ []) k ≡ Some x → (slice_get xs k ≡ Some x) ⊎ (x ≡ y)
front_or_end [] y zero x h = inr cc
front_or_end [] y (suc k) x h = cc
front_or_end (z ∷ xs) y zero x h = inl h
front_or_end (z ∷ xs) y (suc k) x h = front_or_end xs y k x h

pub Keeps-adding : (t u : List Entry) (n : ℕ) (e : Entry) → IsAdding t u n e → Keeps t u
Keeps-adding t u n e added = go added.grown
  where
    go : (u ≡ t) ⊎ (u ≡ t ++ e ∷ []) → Keeps t u
    go (inl same) k f h = ap (λ x. slice_get x k) same ∙ h
    go (inr more) k f h = ap (λ x. slice_get x k) more ∙ at_front t e k f h

there_before : (t u : List Entry) (n : ℕ) (e : Entry) → IsAdding t u n e → (k : ℕ) (f : Entry) → slice_get u k ≡ Some f → (slice_get t k ≡ Some f) ⊎ (f ≡ e)
there_before t u n e added k f h = go added.grown
  where
    go : (u ≡ t) ⊎ (u ≡ t ++ e ∷ []) → (slice_get t k ≡ Some f) ⊎ (f ≡ e)
    go (inl same) = inl (ap (λ x. slice_get x k) (sym same) ∙ h)
    go (inr more) = front_or_end t e k f (ap (λ x. slice_get x k) (sym more) ∙ h)

-- ---- adding an entry

-- the sets of atoms stay increasing
abbrev pub IsFit : Entry → Type 0
IsFit e = (ks : List ℕ) → e ≡ sum_entry ks → IsIncreasing ks

pub IsGrowth-adding : (t u : List Entry) (n : ℕ) (e : Entry) → (IsNumbering t → IsFit e) → IsAdding t u n e → IsGrowth t u
IsGrowth-adding t u n e fit added = record {
  numbering = λ (numbers : IsNumbering t). record {
    different = added.different;
    increasing = λ k ks h. increasing numbers k ks (there_before t u n e added k (sum_entry ks) h);
    nothing_there = Keeps-adding t u n e added _ _ numbers.nothing_there;
    one_there = Keeps-adding t u n e added _ _ numbers.one_there;
    one_form_there = Keeps-adding t u n e added _ _ numbers.one_form_there;
  };
  keeps = Keeps-adding t u n e added;
}
  where
    increasing : IsNumbering t → (k : ℕ) (ks : List ℕ) → (slice_get t k ≡ Some (sum_entry ks)) ⊎ (sum_entry ks ≡ e) → IsIncreasing ks
    increasing numbers k ks (inl h) = numbers.increasing k ks h
    increasing numbers k ks (inr h) = fit numbers ks (sym h)

pub IsGrowth-then : (t u v : List Entry) → IsGrowth t u → IsGrowth u v → IsGrowth t v
IsGrowth-then t u v first second = record {
  numbering = λ (numbers : IsNumbering t). second.numbering (first.numbering numbers);
  keeps = λ k e h. second.keeps k e (first.keeps k e h);
}

-- one atom and the form of it alone
pub IsSingle-made : (t u v : List Entry) (e : Entry) (k n : ℕ) (atoms : List ℕ) → atoms ≡ k ∷ [] → IsAdding t u k e → IsAdding u v n (sum_entry atoms) → IsSingle t v n e
IsSingle-made t u v e k n atoms are first second = record {
  growth = λ (no : (ks : List ℕ) → e ≡ sum_entry ks → ⊥). IsGrowth-then t u v
      (IsGrowth-adding t u k e (λ numbers ks h. absurd (no ks h)) first)
      (IsGrowth-adding u v n (sum_entry atoms) (λ numbers ks h. let same : k ∷ [] ≡ ks = cc in subst IsIncreasing same (tt, tt)) second);
  atom = k;
  there = Keeps-adding u v n (sum_entry atoms) second k e first.there;
  form = second.there ∙ ap (λ ks. Some (sum_entry ks)) are;
}

-- ---- forms

module _ (t : List Entry) where
  -- a set of one number is empty without it
  single_but : (k m : ℕ) → but (has (k ∷ [])) k m ≡ false
  single_but k m = by_test (nat_eq k m)
      (λ e. ap (λ b. (b || false) && not b) e)
      (λ e. ap (λ b. (b || false) && not b) e)

  -- a sum of one atom
  pub FormStands-single : (a : Atom) (k n : ℕ) → AtomStands t k a → slice_get t n ≡ Some (sum_entry (k ∷ [])) → FormStands t n (single a)
  FormStands-single a k n stands there = (k ∷ [], there, (k, ap (λ b. b || false) (equal_itself k), stands, single_but k))

  module _ (numbers : IsNumbering t) where
    pub FormStands-nothing : FormStands t 0 nothing
    FormStands-nothing = ([], numbers.nothing_there, λ m. refl)

    pub FormStands-one : FormStands t 2 one_form
    FormStands-one = FormStands-single one 1 2 numbers.one_there numbers.one_form_there

    -- two tests by number
    pub is_nothing-number : (p : Form) (n : ℕ) → FormStands t n p → is_nothing p ≡ nat_eq 0 n
    is_nothing-number p n h = form_number t numbers.different numbers.increasing nothing p 0 n FormStands-nothing h

    pub is_one-number : (p : Form) (n : ℕ) → FormStands t n p → is_one p ≡ nat_eq n 2
    is_one-number p n h = form_number t numbers.different numbers.increasing p one_form n 2 h FormStands-one

    -- ---- sums

    -- one atom more, or less
    toggled-set : (v : ℕ → Bool) (k m : ℕ) → v k ≡ true → but v k m ≡ xor (nat_eq k m) (v m)
    toggled-set v k m h = by_test (nat_eq k m)
        (λ e. let there = sym (ap v (equal k m e)) ∙ h in ap₂ (λ b c. b && not c) there e ∙ sym (ap₂ xor e there))
        (λ e. but-other v k m e ∙ sym (ap (λ b. xor b (v m)) e))

    toggled-rest : (v : ℕ → Bool) (k m : ℕ) → v k ≡ false → but (λ n. xor (nat_eq k n) (v n)) k m ≡ v m
    toggled-rest v k m h = by_test (nat_eq k m)
        (λ e. let out = sym (ap v (equal k m e)) ∙ h in ap₂ (λ b c. xor b c && not b) e out ∙ sym out)
        (λ e. ap (λ b. xor b (v m) && not b) e ∙ and_true (v m))

    AtomsStand-toggled : (a : Atom) (k : ℕ) (v : ℕ → Bool) (p : Form) → AtomStands t k a → AtomsStand t v p → AtomsStand t (λ m. xor (nat_eq k m) (v m)) (toggled a p)
    AtomsStand-toggled a k v p stands h = by_test (v k)
        (λ e. subst (AtomsStand t (λ m. xor (nat_eq k m) (v m))) (sym (ap (λ b. if b then without (same_atom a) p else adding a p) (there ∙ e)))
        (AtomsStand-same t (but v k) _ _ (λ m. toggled-set v k m e) (without-but t (same_atom a) k tells p v h)))
        (λ e. subst (AtomsStand t (λ m. xor (nat_eq k m) (v m))) (sym (ap (λ b. if b then without (same_atom a) p else adding a p) (there ∙ e)))
        (k, ap₂ xor (equal_itself k) e, stands, AtomsStand-same t v _ p (λ m. sym (toggled-rest v k m e)) h))
      where
        tells : (b : Atom) (l : ℕ) → AtomStands t l b → same_atom a b ≡ nat_eq k l
        tells b l x = same_atom-number t numbers.different numbers.increasing a b k l stands x

        there : some_atom (same_atom a) p ≡ v k
        there = some_atom-has t (same_atom a) k tells p v h

    plus-set : (s u : ℕ → Bool) (k m : ℕ) → s k ≡ true → xor (nat_eq k m) (xor (but s k m) (u m)) ≡ xor (s m) (u m)
    plus-set s u k m h = by_test (nat_eq k m)
        (λ e. let there = sym (ap s (equal k m e)) ∙ h in ap₂ (λ b c. xor b (xor (c && not b) (u m))) e there ∙ sym (ap (λ c. xor c (u m)) there))
        (λ e. ap (λ b. xor b (xor (s m && not b) (u m))) e ∙ ap (λ c. xor c (u m)) (and_true (s m)))

    AtomsStand-plus : (p q : Form) (s u : ℕ → Bool) → AtomsStand t s p → AtomsStand t u q → AtomsStand t (λ m. xor (s m) (u m)) (plus p q)
    AtomsStand-plus nothing q s u h g = AtomsStand-same t u _ q (λ m. sym (ap (λ b. xor b (u m)) (h m))) g
    AtomsStand-plus (adding a p) q s u h g =
        AtomsStand-same t _ _ (plus (adding a p) q) (λ m. plus-set s u h.0 m h.1)
        (AtomsStand-toggled a h.0 (λ m. xor (but s h.0 m) (u m)) (plus p q) h.2 (AtomsStand-plus p q (but s h.0) u h.3 g))

    -- the atoms of two sums are merged
    pub AtomsStand-merged : (p q : Form) (ks ls : List ℕ) → IsIncreasing ks → IsIncreasing ls → AtomsStand t (has ks) p → AtomsStand t (has ls) q → AtomsStand t (has (merged ks ls)) (plus p q)
    AtomsStand-merged p q ks ls i j h g =
        AtomsStand-same t _ _ (plus p q) (λ m. sym (has-merged ks ls m i j)) (AtomsStand-plus p q (has ks) (has ls) h g)

-- ---- the operations

-- the sum of two forms: the merged atoms are put in
pub plus-growth : (t u : List Entry) (i j n : ℕ) (atoms : List ℕ) → atoms ≡ merged (atoms_of (slice_get t i)) (atoms_of (slice_get t j)) → IsAdding t u n (sum_entry atoms) → IsGrowth t u
plus-growth t u i j n atoms are added =
    IsGrowth-adding t u n (sum_entry atoms) (λ numbers ks h. let same : merged (atoms_of (slice_get t i)) (atoms_of (slice_get t j)) ≡ ks = cc in
    subst IsIncreasing same (IsIncreasing-merged _ _ (increasing numbers i (slice_get t i) refl) (increasing numbers j (slice_get t j) refl))) added
  where
    increasing : IsNumbering t → (k : ℕ) (o : Option Entry) → slice_get t k ≡ o → IsIncreasing (atoms_of o)
    increasing numbers k None h = tt
    increasing numbers k (Some one_entry) h = tt
    increasing numbers k (Some (variable_entry m l)) h = tt
    increasing numbers k (Some (product_entry m l)) h = tt
    increasing numbers k (Some (zero_entry ns)) h = tt
    increasing numbers k (Some (symbol_entry f ns l)) h = tt
    increasing numbers k (Some (sum_entry ks)) h = numbers.increasing k ks h

pub plus-combines : (t u : List Entry) (i j n : ℕ) (atoms : List ℕ) → atoms ≡ merged (atoms_of (slice_get t i)) (atoms_of (slice_get t j)) → IsAdding t u n (sum_entry atoms) → Combines plus t u i j n
plus-combines t u i j n atoms are added numbers p q h g = (
  atoms,
  added.there,
  AtomsStand-kept t u (Keeps-adding t u n (sum_entry atoms) added) (plus p q) (has atoms)
      (subst (λ ks. AtomsStand t (has ks) (plus p q)) (sym (are ∙ ap₂ (λ x y. merged (atoms_of x) (atoms_of y)) h.1 g.1))
      (AtomsStand-merged t numbers p q h.0 g.0 (numbers.increasing i h.0 h.1) (numbers.increasing j g.0 g.1) h.2 g.2)),
)

-- the product: its tests are tests of numbers
module _ (t : List Entry) (numbers : IsNumbering t) (p q : Form) (i j : ℕ) (h : FormStands t i p) (g : FormStands t j q) where
  times_by_tests : (a b c d : Bool) → (nat_eq 0 i || nat_eq 0 j) ≡ a → nat_eq i 2 ≡ b → nat_eq j 2 ≡ c → nat_eq i j ≡ d →
      times p q ≡ (if a then nothing else (if b then q else (if c then p else (if d then p else single (product p q)))))
  times_by_tests a b c d e f k l =
      ap₂ (λ (x : Bool × Bool) (y : Bool × Bool). if x.0 then nothing else (if x.1 then q else (if y.0 then p else (if y.1 then p else single (product p q)))))
      (ap₂ (λ (x y : Bool). (x, y)) (ap₂ ◌||◌ (is_nothing-number t numbers p i h) (is_nothing-number t numbers q j g) ∙ e) (is_one-number t numbers p i h ∙ f))
      (ap₂ (λ (x y : Bool). (x, y)) (is_one-number t numbers q j g ∙ k) (form_number t numbers.different numbers.increasing p q i j h g ∙ l))

  none_nothing : (i ≡ 0 → ⊥) → (j ≡ 0 → ⊥) → (nat_eq 0 i || nat_eq 0 j) ≡ false
  none_nothing x y = ap₂ ◌||◌ (nat_eq_turned 0 i ∙ unequal i 0 x) (nat_eq_turned 0 j ∙ unequal j 0 y)

  pub times-nothing : (i ≡ 0) ⊎ (j ≡ 0) → times p q ≡ nothing
  times-nothing either = times_by_tests true _ _ _ (one_nothing either) refl refl refl
    where
      one_nothing : (i ≡ 0) ⊎ (j ≡ 0) → (nat_eq 0 i || nat_eq 0 j) ≡ true
      one_nothing (inl e) = ap (λ k. nat_eq 0 k || nat_eq 0 j) e
      one_nothing (inr e) = ap (λ k. nat_eq 0 i || nat_eq 0 k) e ∙ or_true (nat_eq 0 i)

  pub times-second : (i ≡ 0 → ⊥) → (j ≡ 0 → ⊥) → i ≡ 2 → times p q ≡ q
  times-second x y e = times_by_tests false true _ _ (none_nothing x y) (ap (λ k. nat_eq k 2) e) refl refl

  pub times-first : (i ≡ 0 → ⊥) → (j ≡ 0 → ⊥) → (i ≡ 2 → ⊥) → (j ≡ 2) ⊎ (i ≡ j) → times p q ≡ p
  times-first x y z (inl e) = times_by_tests false false true _ (none_nothing x y) (unequal i 2 z) (ap (λ k. nat_eq k 2) e) refl
  times-first x y z (inr e) =
      times_by_tests false false false true (none_nothing x y) (unequal i 2 z) (ap (λ k. nat_eq k 2) (sym e) ∙ unequal i 2 z) (ap (λ k. nat_eq k j) e ∙ equal_itself j)

  pub times-single : (i ≡ 0 → ⊥) → (j ≡ 0 → ⊥) → (i ≡ 2 → ⊥) → (j ≡ 2 → ⊥) → (i ≡ j → ⊥) → times p q ≡ single (product p q)
  times-single x y z w d = times_by_tests false false false false (none_nothing x y) (unequal i 2 z) (unequal j 2 w) (unequal i j d)

-- a new product
pub times-combines : (t u : List Entry) (i j n : ℕ) → (i ≡ 0 → ⊥) → (j ≡ 0 → ⊥) → (i ≡ 2 → ⊥) → (j ≡ 2 → ⊥) → (i ≡ j → ⊥) →
    IsSingle t u n (product_entry (min i j) (max i j)) → Combines times t u i j n
times-combines t u i j n x y z w d made numbers p q h g =
    let growth = made.growth (λ ks e. cc) in
    subst (FormStands u n) (sym (times-single t numbers p q i j h g x y z w d))
    (FormStands-single u (product p q) made.atom n (i, j, made.there, FormStands-kept t u growth.keeps p i h, FormStands-kept t u growth.keeps q j g) made.form)
