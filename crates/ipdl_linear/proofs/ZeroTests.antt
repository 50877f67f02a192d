-- Whether forms are 0, by their numbers.
use Rattle.std.proofs.Common.{◌≡◌, ℕ, Bool, true, false, not, ◌||◌, List, [], ◌∷◌, length, get_or, if◌then◌else◌, refl, sym, ap, ap₂, ◌∙◌, subst, arith}
use Rattle.std.specs.List.{list_any}
use Rattle.std.specs.Prelude.{filter, nat_eq}
use Rattle.ipdl_linear.proofs.Booleans.{by_test}
use Rattle.ipdl_linear.proofs.FormLists.{AllStand-kept}
use Rattle.ipdl_linear.proofs.Growing.{FormStands-nothing, FormStands-one, FormStands-single, is_nothing-number, is_one-number}
use Rattle.ipdl_linear.proofs.Numbers.{nat_eq_turned}
use Rattle.ipdl_linear.specs.Entries.{Entry, zero_entry, FormStands, AllStand, IsNumbering, IsSingle, Combines}
use Rattle.ipdl_linear.specs.LinearForms.{Form, nothing, all_zero, forms_of, is_nothing, is_one, single, one_form, plus, negated, zero_test, are_zero_form}
use Rattle.ipdl_linear.specs.Operations.{not_empty}

-- a first element is kept, or left out
filter-kept : {X : Type 0} (test : X → Bool) (x : X) (xs : List X) → test x ≡ true → filter test (x ∷ xs) ≡ x ∷ filter test xs
filter-kept test x xs h = rw h

filter-left_out : {X : Type 0} (test : X → Bool) (x : X) (xs : List X) → test x ≡ false → filter test (x ∷ xs) ≡ filter test xs
filter-left_out test x xs h = rw h

module _ (t : List Entry) (numbers : IsNumbering t) where
  AllStand-not_empty : (ns : List ℕ) (fs : List Form) → AllStand t ns fs → AllStand t (not_empty ns) (filter (λ p. not (is_nothing p)) fs)
  AllStand-not_empty [] [] h = tt
  AllStand-not_empty [] (f ∷ fs) h = absurd h
  AllStand-not_empty (n ∷ ns) [] h = absurd h
  AllStand-not_empty (n ∷ ns) (f ∷ fs) h = by_test (nat_eq n 0)
      (λ e. subst (λ ms. AllStand t ms (filter (λ p. not (is_nothing p)) (f ∷ fs))) (sym (filter-left_out (λ m. not (nat_eq m 0)) n ns (ap not e)))
      (subst (AllStand t (not_empty ns)) (sym (filter-left_out (λ p. not (is_nothing p)) f fs (ap not (same ∙ e)))) (AllStand-not_empty ns fs h.1)))
      (λ e. subst (λ ms. AllStand t ms (filter (λ p. not (is_nothing p)) (f ∷ fs))) (sym (filter-kept (λ m. not (nat_eq m 0)) n ns (ap not e)))
      (subst (AllStand t (n ∷ not_empty ns)) (sym (filter-kept (λ p. not (is_nothing p)) f fs (ap not (same ∙ e)))) (h.0, AllStand-not_empty ns fs h.1)))
    where
      same : is_nothing f ≡ nat_eq n 0
      same = is_nothing-number t numbers f n h.0 ∙ nat_eq_turned 0 n

  one_among : (ns : List ℕ) (fs : List Form) → AllStand t ns fs → list_any is_one fs ≡ list_any (λ n. nat_eq n 2) ns
  one_among [] [] h = refl
  one_among [] (f ∷ fs) h = absurd h
  one_among (n ∷ ns) [] h = absurd h
  one_among (n ∷ ns) (f ∷ fs) h = ap₂ ◌||◌ (is_one-number t numbers f n h.0) (one_among ns fs h.1)

  -- one is 1
  some_one : (ms : List ℕ) (gs : List Form) → AllStand t ms gs → list_any (λ n. nat_eq n 2) ms ≡ true → zero_test gs ≡ nothing
  some_one ms [] h e = let none = one_among ms [] h ∙ e in cc
  some_one ms (g ∷ []) h e = ap (λ b. if b then nothing else negated g) (one_among ms (g ∷ []) h ∙ e)
  some_one ms (g ∷ f ∷ gs) h e = ap (λ b. if b then nothing else single (all_zero (forms_of (g ∷ f ∷ gs)))) (one_among ms (g ∷ f ∷ gs) h ∙ e)

  -- there is none
  no_form : (ms : List ℕ) (gs : List Form) → AllStand t ms gs → length ms ≡ 0 → zero_test gs ≡ one_form
  no_form [] [] h e = refl
  no_form [] (g ∷ gs) h e = absurd h
  no_form (m ∷ ms) gs h e = absurd (omega arith)

  -- there is one
  one_alone : (ms : List ℕ) (gs : List Form) (m : ℕ) → AllStand t ms gs → length ms ≡ 1 → m ≡ get_or ms 0 m → list_any (λ n. nat_eq n 2) ms ≡ false → (g : Form) × FormStands t m g × (zero_test gs ≡ negated g)
  one_alone [] gs m h e at out = absurd (omega arith)
  one_alone (k ∷ []) [] m h e at out = absurd h
  one_alone (k ∷ []) (g ∷ []) m h e at out =
      let same : k ≡ m = sym at in
      (g, subst (λ n. FormStands t n g) same h.0, ap (λ b. if b then nothing else negated g) (one_among (k ∷ []) (g ∷ []) h ∙ out))
  one_alone (k ∷ []) (g ∷ f ∷ gs) m h e at out = absurd h.1
  one_alone (k ∷ l ∷ ms) gs m h e at out = absurd (omega arith)

  -- there are several
  several : (ms : List ℕ) (gs : List Form) → AllStand t ms gs → (length ms ≡ 0 → ⊥) → (length ms ≡ 1 → ⊥) → list_any (λ n. nat_eq n 2) ms ≡ false → zero_test gs ≡ single (all_zero (forms_of gs))
  several [] gs h e d out = absurd (e refl)
  several (k ∷ []) gs h e d out = absurd (d refl)
  several (k ∷ l ∷ ms) [] h e d out = absurd h
  several (k ∷ l ∷ ms) (g ∷ []) h e d out = absurd h.1
  several (k ∷ l ∷ ms) (g ∷ f ∷ gs) h e d out = ap (λ b. if b then nothing else single (all_zero (forms_of (g ∷ f ∷ gs)))) (one_among (k ∷ l ∷ ms) (g ∷ f ∷ gs) h ∙ out)

-- ---- the four answers

module _ (t : List Entry) (ns ms : List ℕ) (left : ms ≡ not_empty ns) where
  stand : IsNumbering t → (fs : List Form) → AllStand t ns fs → AllStand t ms (filter (λ p. not (is_nothing p)) fs)
  stand numbers fs h = subst (λ ks. AllStand t ks (filter (λ p. not (is_nothing p)) fs)) (sym left) (AllStand-not_empty t numbers ns fs h)

  pub are_zero-some_one : list_any (λ n. nat_eq n 2) ms ≡ true → IsNumbering t → (fs : List Form) → AllStand t ns fs → FormStands t 0 (are_zero_form fs)
  are_zero-some_one e numbers fs h = subst (FormStands t 0) (sym (some_one t numbers ms _ (stand numbers fs h) e)) (FormStands-nothing t numbers)

  pub are_zero-no_form : length ms ≡ 0 → IsNumbering t → (fs : List Form) → AllStand t ns fs → FormStands t 2 (are_zero_form fs)
  are_zero-no_form e numbers fs h = subst (FormStands t 2) (sym (no_form t numbers ms _ (stand numbers fs h) e)) (FormStands-one t numbers)

  pub are_zero-one : (u : List Entry) (m n : ℕ) → length ms ≡ 1 → m ≡ get_or ms 0 m → list_any (λ k. nat_eq k 2) ms ≡ false → Combines plus t u m 2 n →
      IsNumbering t → (fs : List Form) → AllStand t ns fs → FormStands u n (are_zero_form fs)
  are_zero-one u m n e at out made numbers fs h =
      let g = one_alone t numbers ms _ m (stand numbers fs h) e at out in
      subst (FormStands u n) (sym g.2) (made numbers g.0 one_form g.1 (FormStands-one t numbers))

  pub are_zero-several : (u : List Entry) (n : ℕ) → (length ms ≡ 0 → ⊥) → (length ms ≡ 1 → ⊥) → list_any (λ k. nat_eq k 2) ms ≡ false → IsSingle t u n (zero_entry ms) →
      IsNumbering t → (fs : List Form) → AllStand t ns fs → FormStands u n (are_zero_form fs)
  are_zero-several u n e d out made numbers fs h =
      let gs = filter (λ p. not (is_nothing p)) fs in
      let all = stand numbers fs h in
      let growth = made.growth (λ ks x. cc) in
      subst (FormStands u n) (sym (several t numbers ms gs all e d out))
      (FormStands-single u (all_zero (forms_of gs)) made.atom n (ms, made.there, AllStand-kept t u ms gs growth.keeps all) made.form)
