-- The first difference of two lists of forms is that of their numbers.
use Rattle.std.proofs.Common.{◌≡◌, ◌↔◌, ℕ, zero, suc, ◌<◌, Bool, true, false, ◌&&◌, List, [], ◌∷◌, Option, Some, None, length, get_or, if◌then◌else◌, refl, sym, ap, ap₂, ◌∙◌, arith}
use Rattle.std.specs.Prelude.{min, nat_eq, option_map}
use Rattle.ipdl_linear.proofs.FormLists.{AllStand-kept}
use Rattle.ipdl_linear.proofs.Numbers.{equal_itself, unequal}
use Rattle.ipdl_linear.proofs.Standing.{form_number}
use Rattle.ipdl_linear.specs.Entries.{Entry, AllStand, IsNumbering, IsGrowth}
use Rattle.ipdl_linear.specs.LinearForms.{Form, same_form, same_forms, forms_of}
use Rattle.ipdl_linear.specs.Likeness.{first_difference, telling}
use Rattle.ipdl_linear.specs.Numbers.{first_unequal}
use Rattle.ipdl_linear.specs.declared.likeness.Likeness.TheVariants.{Same}

-- ---- numbers

later : (k l : ℕ) (ks ls : List ℕ) (o : Option ℕ) → k ≡ l → first_unequal ks ls ≡ o → first_unequal (k ∷ ks) (l ∷ ls) ≡ option_map suc o
later k l ks ls o same rest = ap₂ (λ b r. if b then option_map suc r else Some 0) (ap (λ n. nat_eq n l) same ∙ equal_itself l) rest

pub unequal_at : (a b : List ℕ) (i : ℕ) → i < length a → i < length b → ((k : ℕ) → k < i → get_or a k 0 ≡ get_or b k 0) → (get_or a i 0 ≡ get_or b i 0 → ⊥) → first_unequal a b ≡ Some i
unequal_at [] b i x y before here = absurd (omega arith)
unequal_at (k ∷ a) [] i x y before here = absurd (omega arith)
unequal_at (k ∷ a) (l ∷ b) zero x y before here = ap (λ c. if c then option_map suc (first_unequal a b) else Some 0) (unequal k l here)
unequal_at (k ∷ a) (l ∷ b) (suc i) x y before here =
    later k l a b (Some i) (before 0 (omega arith)) (unequal_at a b i (omega arith) (omega arith) (λ m h. before (suc m) (omega arith)) here)

pub all_equal : (a b : List ℕ) → length a ≡ length b → ((k : ℕ) → k < length a → get_or a k 0 ≡ get_or b k 0) → first_unequal a b ≡ None
all_equal [] [] x before = refl
all_equal [] (l ∷ b) x before = absurd (omega arith)
all_equal (k ∷ a) [] x before = absurd (omega arith)
all_equal (k ∷ a) (l ∷ b) x before = later k l a b None (before 0 (omega arith)) (all_equal a b (omega arith) (λ m h. before (suc m) (omega arith)))

pub one_goes_on : (a b : List ℕ) (i : ℕ) → i ≡ min (length a) (length b) → (length a ≡ length b → ⊥) → ((k : ℕ) → k < i → get_or a k 0 ≡ get_or b k 0) → first_unequal a b ≡ Some i
one_goes_on [] [] i e x before = absurd (x refl)
one_goes_on [] (l ∷ b) i e x before = let none : 0 ≡ i = omega arith in ap Some none
one_goes_on (k ∷ a) [] i e x before = let none : 0 ≡ i = omega arith in ap Some none
one_goes_on (k ∷ a) (l ∷ b) zero e x before = absurd (omega arith)
one_goes_on (k ∷ a) (l ∷ b) (suc i) e x before =
    later k l a b (Some i) (before 0 (omega arith)) (one_goes_on a b i (omega arith) (λ h. x (ap suc h)) (λ m h. before (suc m) (omega arith)))

-- ---- forms

first_difference-numbers : (t : List Entry) → IsNumbering t → (ns ms : List ℕ) (fs gs : List Form) → AllStand t ns fs → AllStand t ms gs → first_unequal ns ms ≡ first_difference fs gs
first_difference-numbers t numbers [] [] [] [] h g = refl
first_difference-numbers t numbers [] ms (f ∷ fs) gs h g = absurd h
first_difference-numbers t numbers (n ∷ ns) ms [] gs h g = absurd h
first_difference-numbers t numbers ns [] fs (x ∷ gs) h g = absurd g
first_difference-numbers t numbers ns (m ∷ ms) fs [] h g = absurd g
first_difference-numbers t numbers [] (m ∷ ms) [] (x ∷ gs) h g = refl
first_difference-numbers t numbers (n ∷ ns) [] (f ∷ fs) [] h g = refl
first_difference-numbers t numbers (n ∷ ns) (m ∷ ms) (f ∷ fs) (x ∷ gs) h g =
    ap₂ (λ b o. if b then option_map suc o else Some 0) (sym (form_number t numbers.different numbers.increasing f x n m h.0 g.0)) (first_difference-numbers t numbers ns ms fs gs h.1 g.1)

-- what the numbers of two lists, made one after the other, tell
pub telling-numbers : (t u v : List Entry) (ks ls ns ms : List ℕ) (fs gs : List Form) → IsNumbering t → IsGrowth t u → IsGrowth u v →
    (IsNumbering t → AllStand u ns fs) → (IsNumbering u → AllStand v ms gs) → ks ≡ ns → ls ≡ ms → (o : Option ℕ) → o ≡ first_unequal ks ls → telling o ≡ telling (first_difference fs gs)
telling-numbers t u v ks ls ns ms fs gs numbers first second left right slice_a slice_b o is =
    let on_u = first.numbering numbers in
    ap telling (is ∙ ap₂ first_unequal slice_a slice_b
    ∙ first_difference-numbers v (second.numbering on_u) ns ms fs gs (AllStand-kept u v ns fs second.keeps (left numbers)) (right on_u))

-- ---- the same forms

abbrev is_none : Option ℕ → Bool
is_none None = true
is_none (Some i) = false

-- no bit differs exactly where the lists have the same forms
none_differs : (fs gs : List Form) → is_none (first_difference fs gs) ≡ same_forms (forms_of fs) (forms_of gs)
none_differs [] [] = refl
none_differs [] (g ∷ gs) = refl
none_differs (f ∷ fs) [] = refl
none_differs (f ∷ fs) (g ∷ gs) = first (same_form f g) (first_difference fs gs) (none_differs fs gs)
  where
    first : (b : Bool) (o : Option ℕ) → is_none o ≡ same_forms (forms_of fs) (forms_of gs) → is_none (if b then option_map suc o else Some 0) ≡ (b && same_forms (forms_of fs) (forms_of gs))
    first true None e = e
    first true (Some i) e = e
    first false o e = refl

told_same : (o : Option ℕ) → (telling o ≡ Same → is_none o ≡ true) × (is_none o ≡ true → telling o ≡ Same)
told_same None = (λ e. refl, λ e. refl)
told_same (Some i) = (λ e. cc, λ e. cc)

pub telling-same : (fs gs : List Form) → (telling (first_difference fs gs) ≡ Same) ↔ (same_forms (forms_of fs) (forms_of gs) ≡ true)
telling-same fs gs =
    let both = told_same (first_difference fs gs) in
    (λ e. sym (none_differs fs gs) ∙ both.0 e, λ e. both.1 (none_differs fs gs ∙ e))
