-- In a numbering two numbers are equal exactly where the atoms or the forms are the same for which they stand.
use Rattle.std.proofs.Common.{◌≡◌, ℕ, Bool, true, false, not, ◌&&◌, ◌||◌, List, [], ◌∷◌, Some, if◌then◌else◌, refl, sym, ap, ap₂, ◌∙◌, subst, arith}
use Rattle.std.proofs.lemmas.Bool.{and_parts}
use Rattle.std.specs.Prelude.{min, max, nat_eq, slice_get}
use mathlib.Core.Path.{fun_ext}
use Rattle.ipdl_linear.proofs.Booleans.{by_test, either, and_true, and_both}
use Rattle.ipdl_linear.proofs.Numbers.{equal, equal_itself, nat_eq_turned, same_numbers}
use Rattle.ipdl_linear.specs.Entries.{Entry, one_entry, variable_entry, product_entry, zero_entry, symbol_entry, sum_entry, but, AtomStands, AtomsStand, FormsStand, FormStands, AreDifferent, Keeps}
use Rattle.ipdl_linear.specs.LinearForms.{Atom, one, variable_bit, product, all_zero, symbol_bit, Form, nothing, adding, Forms, no_forms, forms, some_atom, without, same_atom, same_form, same_forms}
use Rattle.ipdl_linear.specs.Numbers.{has, IsIncreasing}

-- ---- sets of numbers

-- what stands for the atoms of a form depends on the numbers in the set alone
pub AtomsStand-same : (t : List Entry) (s u : ℕ → Bool) (p : Form) → ((m : ℕ) → s m ≡ u m) → AtomsStand t s p → AtomsStand t u p
AtomsStand-same t s u p same stand = subst (λ f. AtomsStand t f p) (fun_ext same) stand

and_not_turned : (x y z : Bool) → ((x && not y) && not z) ≡ ((x && not z) && not y)
and_not_turned true true true = refl
and_not_turned true true false = refl
and_not_turned true false true = refl
and_not_turned true false false = refl
and_not_turned false y z = refl

-- another number stays where one is left out
pub but-other : (s : ℕ → Bool) (k m : ℕ) → nat_eq k m ≡ false → but s k m ≡ s m
but-other s k m e = ap (λ b. s m && not b) e ∙ and_true (s m)

-- ---- what is kept

module _ (t u : List Entry) (keeps : Keeps t u) where
  mutual
    pub AtomStands-kept : (a : Atom) (k : ℕ) → AtomStands t k a → AtomStands u k a
    AtomStands-kept one k h = keeps k one_entry h
    AtomStands-kept (variable_bit n i) k h = keeps k (variable_entry n i) h
    AtomStands-kept (product p q) k h =
        (h.0, h.1, keeps k _ h.2, (h.3.0, keeps h.0 _ h.3.1, AtomsStand-kept p _ h.3.2), (h.4.0, keeps h.1 _ h.4.1, AtomsStand-kept q _ h.4.2))
    AtomStands-kept (all_zero ps) k h = (h.0, keeps k _ h.1, FormsStand-kept ps h.0 h.2)
    AtomStands-kept (symbol_bit f ps i) k h = (h.0, keeps k _ h.1, FormsStand-kept ps h.0 h.2)

    pub AtomsStand-kept : (p : Form) (s : ℕ → Bool) → AtomsStand t s p → AtomsStand u s p
    AtomsStand-kept nothing s h = h
    AtomsStand-kept (adding a p) s h = (h.0, h.1, AtomStands-kept a h.0 h.2, AtomsStand-kept p _ h.3)

    pub FormsStand-kept : (ps : Forms) (ns : List ℕ) → FormsStand t ns ps → FormsStand u ns ps
    FormsStand-kept no_forms [] h = tt
    FormsStand-kept no_forms (n ∷ ns) h = absurd h
    FormsStand-kept (forms p ps) [] h = absurd h
    FormsStand-kept (forms p ps) (n ∷ ns) h = ((h.0.0, keeps n _ h.0.1, AtomsStand-kept p _ h.0.2), FormsStand-kept ps ns h.1)

  pub FormStands-kept : (p : Form) (n : ℕ) → FormStands t n p → FormStands u n p
  FormStands-kept p n h = (h.0, keeps n _ h.1, AtomsStand-kept p _ h.2)

-- ---- atoms of a form, and those with a number

module _ (t : List Entry) (test : Atom → Bool) (k : ℕ) (tells : (b : Atom) (l : ℕ) → AtomStands t l b → test b ≡ nat_eq k l) where
  -- an atom of a form is the one of a number exactly where the number is in the set
  pub some_atom-has : (q : Form) (u : ℕ → Bool) → AtomsStand t u q → some_atom test q ≡ u k
  some_atom-has nothing u h = sym (h k)
  some_atom-has (adding b q) u h =
      ap₂ ◌||◌ (tells b h.0 h.2) (some_atom-has q (but u h.0) h.3) ∙ by_test (nat_eq k h.0)
      (λ e. ap (λ x. x || but u h.0 k) e ∙ sym (ap u (equal k h.0 e) ∙ h.1))
      (λ e. ap (λ x. x || but u h.0 k) e ∙ but-other u h.0 k (nat_eq_turned h.0 k ∙ e))

  -- and it is taken out of both together
  pub without-but : (q : Form) (u : ℕ → Bool) → AtomsStand t u q → AtomsStand t (but u k) (without test q)
  without-but nothing u h = λ m. ap (λ b. b && not (nat_eq k m)) (h m)
  without-but (adding b q) u h = by_test (test b)
      (λ e. subst (AtomsStand t (but u k)) (sym (ap (λ x. if x then q else adding b (without test q)) e))
      (subst (λ n. AtomsStand t (but u n) q) (sym (equal k h.0 (sym (tells b h.0 h.2) ∙ e))) h.3))
      (λ e. subst (AtomsStand t (but u k)) (sym (ap (λ x. if x then q else adding b (without test q)) e)) (
        h.0,
        but-other u k h.0 (sym (tells b h.0 h.2) ∙ e) ∙ h.1,
        h.2,
        AtomsStand-same t (but (but u h.0) k) (but (but u k) h.0) (without test q) (λ m. and_not_turned (u m) (nat_eq h.0 m) (nat_eq k m)) (without-but q (but u h.0) h.3),
      ))

-- ---- the same numbers

-- two pairs of numbers in their order
pairs_equal : (i j k l : ℕ) → ((nat_eq i k && nat_eq j l) || (nat_eq i l && nat_eq j k)) ≡ true → product_entry (min i j) (max i j) ≡ product_entry (min k l) (max k l)
pairs_equal i j k l h = either (nat_eq i k && nat_eq j l) (nat_eq i l && nat_eq j k) h
    (λ e. let p = and_parts (nat_eq i k) (nat_eq j l) e in ap₂ (λ x y. product_entry (min x y) (max x y)) (equal i k p.0) (equal j l p.1))
    (λ e. let p = and_parts (nat_eq i l) (nat_eq j k) e in let f = equal i l p.0 in let g = equal j k p.1 in
    ap₂ product_entry (omega arith) (omega arith))

equal_pairs : (i j k l : ℕ) → min i j ≡ min k l → max i j ≡ max k l → ((nat_eq i k && nat_eq j l) || (nat_eq i l && nat_eq j k)) ≡ true
equal_pairs i j k l f g = by_test (nat_eq i k)
    (λ e. let same = equal i k e in let other : j ≡ l = omega arith in
    ap (λ b. b || (nat_eq i l && nat_eq j k)) (and_both (nat_eq i k) (nat_eq j l) e (ap (λ n. nat_eq n l) other ∙ equal_itself l)))
    (λ e. let first : i ≡ l = crossed f g (λ same. let x = sym e ∙ ap (λ n. nat_eq n k) same ∙ equal_itself k in cc) in let second : j ≡ k = omega arith in
    ap₂ (λ b c. b || c) (ap (λ b. b && nat_eq j l) e)
    (and_both (nat_eq i l) (nat_eq j k) (ap (λ n. nat_eq n l) first ∙ equal_itself l) (ap (λ n. nat_eq n k) second ∙ equal_itself k)))
  where
    crossed : min i j ≡ min k l → max i j ≡ max k l → (i ≡ k → ⊥) → i ≡ l
    crossed f g h = omega arith

abbrev kind : Entry → ℕ
kind one_entry = 0
kind (variable_entry n i) = 1
kind (product_entry i j) = 2
kind (zero_entry ns) = 3
kind (symbol_entry f ns i) = 4
kind (sum_entry ks) = 5

module _ (t : List Entry) (different : AreDifferent t) (increasing : (n : ℕ) (ks : List ℕ) → slice_get t n ≡ Some (sum_entry ks) → IsIncreasing ks) where
  -- a test that holds exactly where two entries are equal holds exactly where their numbers are
  by_entry : (k l : ℕ) (e f : Entry) (b : Bool) → slice_get t k ≡ Some e → slice_get t l ≡ Some f → (b ≡ true → e ≡ f) → (e ≡ f → b ≡ true) → b ≡ nat_eq k l
  by_entry k l e f b at_k at_l sound complete = by_test b
      (λ h. h ∙ sym (ap (λ n. nat_eq n l) (different k l f (at_k ∙ ap Some (sound h)) at_l) ∙ equal_itself l))
      (λ h. by_test (nat_eq k l)
      (λ g. let both = sym at_k ∙ ap (slice_get t) (equal k l g) ∙ at_l in let same : e ≡ f = cc in let no = sym h ∙ complete same in cc)
      (λ g. h ∙ sym g))

  -- atoms of two forms have two numbers
  abbrev atom_kind : Atom → ℕ
  atom_kind one = 0
  atom_kind (variable_bit n i) = 1
  atom_kind (product p q) = 2
  atom_kind (all_zero ps) = 3
  atom_kind (symbol_bit f ps i) = 4

  entry_at : (a : Atom) (k : ℕ) → AtomStands t k a → (e : Entry) × (slice_get t k ≡ Some e) × (kind e ≡ atom_kind a)
  entry_at one k h = (_, h, refl)
  entry_at (variable_bit n i) k h = (_, h, refl)
  entry_at (product p q) k h = (_, h.2, refl)
  entry_at (all_zero ps) k h = (_, h.1, refl)
  entry_at (symbol_bit f ps i) k h = (_, h.1, refl)

  kinds_apart : (a b : Atom) (k l : ℕ) → AtomStands t k a → AtomStands t l b → (atom_kind a ≡ atom_kind b → ⊥) → false ≡ nat_eq k l
  kinds_apart a b k l h g apart =
      let x = entry_at a k h in let y = entry_at b l g in
      by_entry k l x.0 y.0 false x.1 y.1 (λ e. cc) (λ e. absurd (apart (sym x.2 ∙ ap kind e ∙ y.2)))

  -- forms have one number exactly where the sets of their atoms are the same
  form_by_atoms : (p q : Form) (i j : ℕ) (h : FormStands t i p) (g : FormStands t j q) →
      (same_form p q ≡ true → (m : ℕ) → has h.0 m ≡ has g.0 m) × (((m : ℕ) → has h.0 m ≡ has g.0 m) → same_form p q ≡ true) → same_form p q ≡ nat_eq i j
  form_by_atoms p q i j h g sets =
      by_entry i j (sum_entry h.0) (sum_entry g.0) (same_form p q) h.1 g.1
      (λ e. ap sum_entry (same_numbers h.0 g.0 (increasing i h.0 h.1) (increasing j g.0 g.1) (sets.0 e)))
      (λ e. let same : h.0 ≡ g.0 = cc in sets.1 (λ m. ap (λ ks. has ks m) same))

  mutual
    atom_number : (a b : Atom) (k l : ℕ) → AtomStands t k a → AtomStands t l b → same_atom a b ≡ nat_eq k l
    atom_number one one k l h g = by_entry k l one_entry one_entry true h g (λ e. refl) (λ e. refl)
    atom_number (variable_bit n i) (variable_bit m j) k l h g =
        by_entry k l (variable_entry n i) (variable_entry m j) (nat_eq n m && nat_eq i j) h g
        (λ e. let p = and_parts (nat_eq n m) (nat_eq i j) e in ap₂ variable_entry (equal n m p.0) (equal i j p.1))
        (λ e. let f : n ≡ m = cc in let d : i ≡ j = cc in and_both (nat_eq n m) (nat_eq i j) (ap (λ x. nat_eq x m) f ∙ equal_itself m) (ap (λ x. nat_eq x j) d ∙ equal_itself j))
    atom_number (product p q) (product r s) k l h g =
        ap₂ ◌||◌
        (ap₂ ◌&&◌ (form_by_atoms p r h.0 g.0 h.3 g.3 (atom_sets p r _ _ h.3.2 g.3.2)) (form_by_atoms q s h.1 g.1 h.4 g.4 (atom_sets q s _ _ h.4.2 g.4.2)))
        (ap₂ ◌&&◌ (form_by_atoms p s h.0 g.1 h.3 g.4 (atom_sets p s _ _ h.3.2 g.4.2)) (form_by_atoms q r h.1 g.0 h.4 g.3 (atom_sets q r _ _ h.4.2 g.3.2)))
        ∙ by_entry k l _ _ _ h.2 g.2 (pairs_equal h.0 h.1 g.0 g.1) (λ e. let x : min h.0 h.1 ≡ min g.0 g.1 = cc in let y : max h.0 h.1 ≡ max g.0 g.1 = cc in equal_pairs h.0 h.1 g.0 g.1 x y)
    atom_number (all_zero ps) (all_zero qs) k l h g =
        let lists = list_numbers ps qs h.0 g.0 h.2 g.2 in
        by_entry k l (zero_entry h.0) (zero_entry g.0) (same_forms ps qs) h.1 g.1 (λ e. ap zero_entry (lists.0 e)) (λ e. let same : h.0 ≡ g.0 = cc in lists.1 same)
    atom_number (symbol_bit f ps i) (symbol_bit d qs j) k l h g =
        let lists = list_numbers ps qs h.0 g.0 h.2 g.2 in
        by_entry k l (symbol_entry f h.0 i) (symbol_entry d g.0 j) (nat_eq f d && (same_forms ps qs && nat_eq i j)) h.1 g.1
        (λ e. let x = and_parts (nat_eq f d) (same_forms ps qs && nat_eq i j) e in let y = and_parts (same_forms ps qs) (nat_eq i j) x.1 in
        ap₂ (λ (z : ℕ) (w : List ℕ × ℕ). symbol_entry z w.0 w.1) (equal f d x.0) (ap₂ (λ (w : List ℕ) (z : ℕ). (w, z)) (lists.0 y.0) (equal i j y.1)))
        (λ e. let x : f ≡ d = cc in let y : h.0 ≡ g.0 = cc in let z : i ≡ j = cc in
        and_both (nat_eq f d) _ (ap (λ n. nat_eq n d) x ∙ equal_itself d) (and_both (same_forms ps qs) (nat_eq i j) (lists.1 y) (ap (λ n. nat_eq n j) z ∙ equal_itself j)))
    atom_number a b k l h g = kinds_apart a b k l h g (λ e. absurd (omega arith))

    -- the same atoms, the same numbers
    atom_sets : (p q : Form) (s u : ℕ → Bool) → AtomsStand t s p → AtomsStand t u q →
        (same_form p q ≡ true → (m : ℕ) → s m ≡ u m) × (((m : ℕ) → s m ≡ u m) → same_form p q ≡ true)
    atom_sets nothing nothing s u h g = (λ e m. h m ∙ sym (g m), λ e. refl)
    atom_sets nothing (adding b q) s u h g = (λ e. cc, λ e. let no = sym (h g.0) ∙ e g.0 ∙ g.1 in cc)
    atom_sets (adding a p) q s u h g =
        let tells = λ (b : Atom) (l : ℕ) (x : AtomStands t l b). atom_number a b h.0 l h.2 x in
        let there = some_atom-has t (same_atom a) h.0 tells q u g in
        let rest = atom_sets p (without (same_atom a) q) (but s h.0) (but u h.0) h.3 (without-but t (same_atom a) h.0 tells q u g) in (
          λ e. let x = and_parts (some_atom (same_atom a) q) (same_form p (without (same_atom a) q)) e in
              λ m. by_test (nat_eq h.0 m)
              (λ f. sym (ap s (equal h.0 m f)) ∙ h.1 ∙ sym (sym there ∙ x.0) ∙ ap u (equal h.0 m f))
              (λ f. sym (but-other s h.0 m f) ∙ rest.0 x.1 m ∙ but-other u h.0 m f),
          λ e. and_both (some_atom (same_atom a) q) (same_form p (without (same_atom a) q)) (there ∙ sym (e h.0) ∙ h.1) (rest.1 (λ m. ap (λ b. b && not (nat_eq h.0 m)) (e m))),
        )

    list_numbers : (ps qs : Forms) (ns ms : List ℕ) → FormsStand t ns ps → FormsStand t ms qs → (same_forms ps qs ≡ true → ns ≡ ms) × (ns ≡ ms → same_forms ps qs ≡ true)
    list_numbers no_forms no_forms [] [] h g = (λ e. refl, λ e. refl)
    list_numbers no_forms no_forms [] (m ∷ ms) h g = absurd g
    list_numbers no_forms no_forms (n ∷ ns) ms h g = absurd h
    list_numbers no_forms (forms q qs) [] [] h g = absurd g
    list_numbers no_forms (forms q qs) [] (m ∷ ms) h g = (λ e. cc, λ e. cc)
    list_numbers no_forms (forms q qs) (n ∷ ns) ms h g = absurd h
    list_numbers (forms p ps) no_forms [] ms h g = absurd h
    list_numbers (forms p ps) no_forms (n ∷ ns) [] h g = (λ e. cc, λ e. cc)
    list_numbers (forms p ps) no_forms (n ∷ ns) (m ∷ ms) h g = absurd g
    list_numbers (forms p ps) (forms q qs) [] ms h g = absurd h
    list_numbers (forms p ps) (forms q qs) (n ∷ ns) [] h g = absurd g
    list_numbers (forms p ps) (forms q qs) (n ∷ ns) (m ∷ ms) h g =
        let first = form_by_atoms p q n m h.0 g.0 (atom_sets p q _ _ h.0.2 g.0.2) in
        let rest = list_numbers ps qs ns ms h.1 g.1 in (
          λ e. let x = and_parts (same_form p q) (same_forms ps qs) e in ap₂ (λ y ys. y ∷ ys) (equal n m (sym first ∙ x.0)) (rest.0 x.1),
          λ e. let x : n ≡ m = cc in let y : ns ≡ ms = cc in
              and_both (same_form p q) (same_forms ps qs) (first ∙ ap (λ z. nat_eq z m) x ∙ equal_itself m) (rest.1 y),
        )

  -- two forms are the same exactly where their numbers are
  pub form_number : (p q : Form) (i j : ℕ) → FormStands t i p → FormStands t j q → same_form p q ≡ nat_eq i j
  form_number p q i j h g = form_by_atoms p q i j h g (atom_sets p q _ _ h.2 g.2)

  -- and two atoms
  pub same_atom-number : (a b : Atom) (k l : ℕ) → AtomStands t k a → AtomStands t l b → same_atom a b ≡ nat_eq k l
  same_atom-number = atom_number
