-- The forms of an operator by those of its operands.
use Rattle.std.proofs.Common.{◌≡◌, ◌⊎◌, inl, inr, ℕ, List, [], ◌∷◌, ◌++◌, map, refl, sym, ap, ◌∙◌, subst}
use Rattle.std.specs.Prelude.{slice_get}
use Rattle.ipdl_linear.proofs.FormLists.{AllStand-kept, AllStand-append, AllStand-take, AllStand-drop}
use Rattle.ipdl_linear.specs.Entries.{Entry, FormStands, FormsStand, AllStand, IsNumbering, IsGrowth}
use Rattle.ipdl_linear.specs.LinearForms.{Atom, symbol_bit, Form, Forms, forms_of, plus, times, negated, are_zero_form, bitwise, places, choices, linear_forms}
use Rattle.ipdl_linear.specs.Operations.{IsOperation, forms_over_one, forms_over_two, part_of}
use Rattle.ipdl_linear.specs.declared.bitwise.Operator.{Operator}
use Rattle.ipdl_linear.specs.declared.bitwise.Operator.TheVariants.{Plus, Times, Negation}
use Rattle.ipdl_term.specs.Interpretations.{Signature}
use Rattle.ipdl_term.specs.Terms.{Expression, application, exclusive, conjunction, negation, concatenation, segment, equality, selection}
use Rattle.ipdl_typing.specs.Checks.{symbol_to}

-- what was made of two lists, read ks slices
abbrev pub Made : List Entry → List Entry → Operator → List ℕ → List ℕ → List ℕ → Type 0
Made t u operator ks ls ns = (op : Form → Form → Form) → IsNumbering t → IsOperation t operator op → (fs gs : List Form) → AllStand t ks fs → AllStand t ls gs → AllStand u ns (bitwise op fs gs)

module _ (t u : List Entry) where
  pub over-application : (sig : Signature) (x e : Expression) (f w : ℕ) (ks ns : List ℕ) → x ≡ application f e → w ≡ symbol_to (slice_get sig f) →
      ((atom : ℕ → Atom) → IsNumbering t → (ps : Forms) × FormsStand t ks ps × (atom ≡ symbol_bit f ps) → AllStand u ns (places atom 0 w)) →
      IsNumbering t → (fs : List Form) → AllStand t ks fs → AllStand u ns (forms_over_one sig x fs)
  over-application sig x e f w ks ns is width made numbers fs h =
      subst (λ y. AllStand u ns (forms_over_one sig y fs)) (sym is)
      (subst (λ v. AllStand u ns (places (symbol_bit f (forms_of fs)) 0 v)) width (made (symbol_bit f (forms_of fs)) numbers (forms_of fs, h, refl)))

  bitwise_negated : (fs : List Form) → bitwise (λ p q. negated p) fs fs ≡ map negated fs
  bitwise_negated [] = refl
  bitwise_negated (f ∷ fs) = ap (λ gs. negated f ∷ gs) (bitwise_negated fs)

  pub over-negation : (sig : Signature) (x e : Expression) (ks ls xs ns : List ℕ) → x ≡ negation e → ls ≡ ks → xs ≡ ks → Made t u Negation ls xs ns →
      IsNumbering t → (fs : List Form) → AllStand t ks fs → AllStand u ns (forms_over_one sig x fs)
  over-negation sig x e ks ls xs ns is first second made numbers fs h =
      subst (λ y. AllStand u ns (forms_over_one sig y fs)) (sym is)
      (subst (AllStand u ns) (bitwise_negated fs)
      (made (λ p q. negated p) numbers refl fs fs (subst (λ ms. AllStand t ms fs) (sym first) h) (subst (λ ms. AllStand t ms fs) (sym second) h)))

  pub over-exclusive : (x a b : Expression) (ks ls xs ys ns : List ℕ) → x ≡ exclusive a b → xs ≡ ks → ys ≡ ls → Made t u Plus xs ys ns →
      IsNumbering t → (fs gs : List Form) → AllStand t ks fs → AllStand t ls gs → AllStand u ns (forms_over_two x fs gs)
  over-exclusive x a b ks ls xs ys ns is first second made numbers fs gs h g =
      subst (λ y. AllStand u ns (forms_over_two y fs gs)) (sym is)
      (made plus numbers refl fs gs (subst (λ ms. AllStand t ms fs) (sym first) h) (subst (λ ms. AllStand t ms gs) (sym second) g))

  pub over-conjunction : (x a b : Expression) (ks ls xs ys ns : List ℕ) → x ≡ conjunction a b → xs ≡ ks → ys ≡ ls → Made t u Times xs ys ns →
      IsNumbering t → (fs gs : List Form) → AllStand t ks fs → AllStand t ls gs → AllStand u ns (forms_over_two x fs gs)
  over-conjunction x a b ks ls xs ys ns is first second made numbers fs gs h g =
      subst (λ y. AllStand u ns (forms_over_two y fs gs)) (sym is)
      (made times numbers refl fs gs (subst (λ ms. AllStand t ms fs) (sym first) h) (subst (λ ms. AllStand t ms gs) (sym second) g))

  pub over-equality : (x a b : Expression) (ks ls xs ys ns : List ℕ) → x ≡ equality a b → xs ≡ ks → ys ≡ ls →
      (IsNumbering t → (fs gs : List Form) → AllStand t xs fs → AllStand t ys gs → AllStand u ns (are_zero_form (bitwise plus fs gs) ∷ [])) →
      IsNumbering t → (fs gs : List Form) → AllStand t ks fs → AllStand t ls gs → AllStand u ns (forms_over_two x fs gs)
  over-equality x a b ks ls xs ys ns is first second made numbers fs gs h g =
      subst (λ y. AllStand u ns (forms_over_two y fs gs)) (sym is)
      (made numbers fs gs (subst (λ ms. AllStand t ms fs) (sym first) h) (subst (λ ms. AllStand t ms gs) (sym second) g))

  pub equality-stands : (v : List Entry) (ks ls sums ns : List ℕ) (n : ℕ) → IsGrowth t u → Made t u Plus ks ls sums →
      (IsNumbering u → (fs : List Form) → AllStand u sums fs → FormStands v n (are_zero_form fs)) → ns ≡ n ∷ [] →
      IsNumbering t → (fs gs : List Form) → AllStand t ks fs → AllStand t ls gs → AllStand v ns (are_zero_form (bitwise plus fs gs) ∷ [])
  equality-stands v ks ls sums ns n growth made test are numbers fs gs h g =
      subst (λ ms. AllStand v ms (are_zero_form (bitwise plus fs gs) ∷ [])) (sym are)
      (test (growth.numbering numbers) (bitwise plus fs gs) (made plus numbers refl fs gs h g), tt)

module _ (t : List Entry) where
  pub over-segment : (sig : Signature) (x e : Expression) (i k : ℕ) (ks ls ns : List ℕ) → x ≡ segment i k e → ls ≡ ks → ns ≡ part_of i k ls →
      IsNumbering t → (fs : List Form) → AllStand t ks fs → AllStand t ns (forms_over_one sig x fs)
  over-segment sig x e i k ks ls ns is slice are numbers fs h =
      subst (λ y. AllStand t ns (forms_over_one sig y fs)) (sym is)
      (subst (λ ms. AllStand t ms (part_of i k fs)) (sym (are ∙ ap (part_of i k) slice)) (AllStand-take t k _ _ (AllStand-drop t i ks fs h)))

  pub over-concatenation : (x a b : Expression) (ks ls ys ns : List ℕ) → x ≡ concatenation a b → ys ≡ ls → ns ≡ ks ++ ys →
      IsNumbering t → (fs gs : List Form) → AllStand t ks fs → AllStand t ls gs → AllStand t ns (forms_over_two x fs gs)
  over-concatenation x a b ks ls ys ns is slice are numbers fs gs h g =
      subst (λ y. AllStand t ns (forms_over_two y fs gs)) (sym is)
      (subst (λ ms. AllStand t ms (fs ++ gs)) (sym (are ∙ ap (λ ms. ks ++ ms) slice)) (AllStand-append t ks ls fs gs h g))

-- ---- the walk

-- the operand of an operator, and what is made over it
pub walked-one : (t u v : List Entry) (sig : Signature) (widths ks ns : List ℕ) (x e : Expression) → IsGrowth t u →
    (IsNumbering t → AllStand u ks (linear_forms sig widths e)) →
    (IsNumbering u → (fs : List Form) → AllStand u ks fs → AllStand v ns (forms_over_one sig x fs)) →
    linear_forms sig widths x ≡ forms_over_one sig x (linear_forms sig widths e) →
    IsNumbering t → AllStand v ns (linear_forms sig widths x)
walked-one t u v sig widths ks ns x e growth operand made is numbers =
    subst (AllStand v ns) (sym is) (made (growth.numbering numbers) (linear_forms sig widths e) (operand numbers))

pub walked-two : (t u v w : List Entry) (sig : Signature) (widths ks ls ns : List ℕ) (x a b : Expression) → IsGrowth t u → IsGrowth u v →
    (IsNumbering t → AllStand u ks (linear_forms sig widths a)) → (IsNumbering u → AllStand v ls (linear_forms sig widths b)) →
    (IsNumbering v → (fs gs : List Form) → AllStand v ks fs → AllStand v ls gs → AllStand w ns (forms_over_two x fs gs)) →
    linear_forms sig widths x ≡ forms_over_two x (linear_forms sig widths a) (linear_forms sig widths b) →
    IsNumbering t → AllStand w ns (linear_forms sig widths x)
walked-two t u v w sig widths ks ls ns x a b first second left right made is numbers =
    let on_u = first.numbering numbers in
    subst (AllStand w ns) (sym is)
    (made (second.numbering on_u) (linear_forms sig widths a) (linear_forms sig widths b) (AllStand-kept u v ks (linear_forms sig widths a) second.keeps (left numbers)) (right on_u))

pub walked-three : (t u v w z : List Entry) (sig : Signature) (widths ks ls ms xs ys zs ns : List ℕ) (x c a b : Expression) → IsGrowth t u → IsGrowth u v → IsGrowth v w →
    (IsNumbering t → AllStand u ks (linear_forms sig widths c)) → (IsNumbering u → AllStand v ls (linear_forms sig widths a)) → (IsNumbering v → AllStand w ms (linear_forms sig widths b)) →
    xs ≡ ks → ys ≡ ls → zs ≡ ms →
    (IsNumbering w → (ts fs gs : List Form) → AllStand w xs ts → AllStand w ys fs → AllStand w zs gs → AllStand z ns (choices ts fs gs)) →
    x ≡ selection c a b → IsNumbering t → AllStand z ns (linear_forms sig widths x)
walked-three t u v w z sig widths ks ls ms xs ys zs ns x c a b first second third test left right slice_c slice_a slice_b made is numbers =
    let on_u = first.numbering numbers in
    let on_v = second.numbering on_u in
    subst (λ y. AllStand z ns (linear_forms sig widths y)) (sym is)
    (made (third.numbering on_v) (linear_forms sig widths c) (linear_forms sig widths a) (linear_forms sig widths b)
    (subst (λ qs. AllStand w qs (linear_forms sig widths c)) (sym slice_c)
    (AllStand-kept v w ks (linear_forms sig widths c) third.keeps (AllStand-kept u v ks (linear_forms sig widths c) second.keeps (test numbers))))
    (subst (λ qs. AllStand w qs (linear_forms sig widths a)) (sym slice_a) (AllStand-kept v w ls (linear_forms sig widths a) third.keeps (left on_u)))
    (subst (λ qs. AllStand w qs (linear_forms sig widths b)) (sym slice_b) (right on_v)))

pub walked-one-is : (sig : Signature) (widths : List ℕ) (x e : Expression) → ((f : ℕ) × (x ≡ application f e)) ⊎ ((x ≡ negation e) ⊎ ((i : ℕ) × (n : ℕ) × (x ≡ segment i n e))) →
    linear_forms sig widths x ≡ forms_over_one sig x (linear_forms sig widths e)
walked-one-is sig widths x e (inl h) = ap (linear_forms sig widths) h.1 ∙ ap (λ y. forms_over_one sig y (linear_forms sig widths e)) (sym h.1)
walked-one-is sig widths x e (inr (inl h)) = ap (linear_forms sig widths) h ∙ ap (λ y. forms_over_one sig y (linear_forms sig widths e)) (sym h)
walked-one-is sig widths x e (inr (inr h)) = ap (linear_forms sig widths) h.2 ∙ ap (λ y. forms_over_one sig y (linear_forms sig widths e)) (sym h.2)

pub walked-two-is : (sig : Signature) (widths : List ℕ) (x a b : Expression) → (x ≡ exclusive a b) ⊎ ((x ≡ conjunction a b) ⊎ ((x ≡ concatenation a b) ⊎ (x ≡ equality a b))) →
    linear_forms sig widths x ≡ forms_over_two x (linear_forms sig widths a) (linear_forms sig widths b)
walked-two-is sig widths x a b (inl h) = ap (linear_forms sig widths) h ∙ ap (λ y. forms_over_two y (linear_forms sig widths a) (linear_forms sig widths b)) (sym h)
walked-two-is sig widths x a b (inr (inl h)) = ap (linear_forms sig widths) h ∙ ap (λ y. forms_over_two y (linear_forms sig widths a) (linear_forms sig widths b)) (sym h)
walked-two-is sig widths x a b (inr (inr (inl h))) = ap (linear_forms sig widths) h ∙ ap (λ y. forms_over_two y (linear_forms sig widths a) (linear_forms sig widths b)) (sym h)
walked-two-is sig widths x a b (inr (inr (inr h))) = ap (linear_forms sig widths) h ∙ ap (λ y. forms_over_two y (linear_forms sig widths a) (linear_forms sig widths b)) (sym h)
