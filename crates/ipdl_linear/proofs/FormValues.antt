-- The value of a typed expression is what its linear forms mean, so the same forms have the same value.
use Rattle.std.proofs.Common.{◌≡◌, ℕ, zero, suc, ◌+◌, Bool, true, false, not, ◌&&◌, ◌||◌, List, [], ◌∷◌, ◌++◌, length, take, drop, map, if◌then◌else◌, refl, sym, ap, ap₂, ◌∙◌, arith}
use Rattle.std.proofs.lemmas.Bool.{eqb-true, and_parts}
use Rattle.std.proofs.lemmas.Bool.Decides.{nat_tests}
use Rattle.std.proofs.lemmas.List.{take-map, drop-map, map-append}
use Rattle.std.specs.List.{list_any}
use Rattle.std.specs.Prelude.{nat_eq, nat_le, filter}
use Rattle.ipdl_base.specs.Bits.{xor, zip_bits, xor_bits, and_bits, not_bits}
use Rattle.ipdl_laws.proofs.Widths.{length-evaluation}
use Rattle.ipdl_linear.proofs.Booleans.{xor_twice, xor_past, xor_assoc, xor_true, xor_false, and_itself, and_false, and_true, and_comm, either, zip_choice_true, zip_choice_false, same_bits_by_sum}
use Rattle.ipdl_linear.specs.FormValues.{bit_at_place, are_zero, atom_value, form_value, forms_value}
use Rattle.ipdl_linear.specs.LinearForms.{Atom, one, variable_bit, product, all_zero, symbol_bit, Form, nothing, adding, Forms, no_forms, forms, is_nothing, some_atom, without, same_atom, same_form, same_forms, forms_of, one_form, is_one, toggled, plus, times, choice, negated, zero_test, bitwise, places, constant, choices, linear_forms}
use Rattle.ipdl_term.specs.Interpretations.{Signature, Interpretation, Interprets, variable_value, symbol_value, at_one_width, chosen, evaluation}
use Rattle.ipdl_term.specs.Surroundings.{FitWidths}
use Rattle.ipdl_term.specs.Terms.{Value, Expression, literal, variable, outer, application, exclusive, conjunction, negation, concatenation, segment, equality, selection}
use Rattle.ipdl_term.specs.Typing.{HasWidth}

module _ (J : Interpretation) (env : List Value) where
  -- ---- the same forms

  -- a form's bit, by that of one of its atoms
  taken_out : (test : Atom → Bool) (x : Bool) → ((b : Atom) → test b ≡ true → x ≡ atom_value J env b) → (q : Form) → some_atom test q ≡ true →
      xor x (form_value J env (without test q)) ≡ form_value J env q
  taken_out test x h nothing has = cc
  taken_out test x h (adding b q) has = go (test b) refl has (taken_out test x h q)
    where
      go : (t : Bool) → test b ≡ t → (t || some_atom test q) ≡ true → (some_atom test q ≡ true → xor x (form_value J env (without test q)) ≡ form_value J env q) →
          xor x (form_value J env (if t then q else adding b (without test q))) ≡ xor (atom_value J env b) (form_value J env q)
      go true e k rest = ap (λ y. xor y (form_value J env q)) (h b e)
      go false e k rest = xor_past x (atom_value J env b) _ ∙ ap (xor (atom_value J env b)) (rest k)

  nothing-value : (p : Form) → is_nothing p ≡ true → form_value J env p ≡ false
  nothing-value nothing h = refl
  nothing-value (adding a p) h = cc

  mutual
    same_atom-value : (a b : Atom) → same_atom a b ≡ true → atom_value J env a ≡ atom_value J env b
    same_atom-value one one h = refl
    same_atom-value (variable_bit n i) (variable_bit m j) h =
        let k = and_parts _ _ h in ap₂ (λ x y. bit_at_place (variable_value env x) y) (eqb-true n m k.0) (eqb-true i j k.1)
    same_atom-value (product p q) (product r s) h = either _ _ h
        (λ k. let l = and_parts _ _ k in ap₂ ◌&&◌ (same_form-value p r l.0) (same_form-value q s l.1))
        (λ k. let l = and_parts _ _ k in ap₂ ◌&&◌ (same_form-value p s l.0) (same_form-value q r l.1) ∙ and_comm (form_value J env s) (form_value J env r))
    same_atom-value (all_zero ps) (all_zero qs) h = ap are_zero (same_forms-value ps qs h)
    same_atom-value (symbol_bit f ps i) (symbol_bit g qs j) h =
        let k = and_parts _ _ h in let l = and_parts _ _ k.1 in
        ap₂ bit_at_place (ap₂ (symbol_value J) (eqb-true f g k.0) (same_forms-value ps qs l.0)) (eqb-true i j l.1)
    same_atom-value _ _ h = cc

    same_form-value : (p q : Form) → same_form p q ≡ true → form_value J env p ≡ form_value J env q
    same_form-value nothing q h = sym (nothing-value q h)
    same_form-value (adding a p) q h =
        let k = and_parts _ _ h in
        ap (xor (atom_value J env a)) (same_form-value p _ k.1) ∙ taken_out (same_atom a) (atom_value J env a) (λ b e. same_atom-value a b e) q k.0

    pub same_forms-value : (ps qs : Forms) → same_forms ps qs ≡ true → forms_value J env ps ≡ forms_value J env qs
    same_forms-value no_forms no_forms h = refl
    same_forms-value (forms p ps) (forms q qs) h = let k = and_parts _ _ h in ap₂ (λ b v. b ∷ v) (same_form-value p q k.0) (same_forms-value ps qs k.1)
    same_forms-value _ _ h = cc

  -- ---- what the operations mean

  abbrev values : List Form → Value
  values ps = map (form_value J env) ps

  pub forms_of-value : (ps : List Form) → forms_value J env (forms_of ps) ≡ values ps
  forms_of-value [] = refl
  forms_of-value (p ∷ ps) = ap (λ v. form_value J env p ∷ v) (forms_of-value ps)

  -- of a choice of forms
  if-value : (b : Bool) (p q : Form) (x : Bool) → (b ≡ true → form_value J env p ≡ x) → (b ≡ false → form_value J env q ≡ x) → form_value J env (if b then p else q) ≡ x
  if-value true p q x f g = f refl
  if-value false p q x f g = g refl

  one-value : (p : Form) → is_one p ≡ true → form_value J env p ≡ true
  one-value p h = same_form-value p one_form h

  toggled-value : (a : Atom) (p : Form) → form_value J env (toggled a p) ≡ xor (atom_value J env a) (form_value J env p)
  toggled-value a p = if-value (some_atom (same_atom a) p) _ _ _
      (λ h. sym (xor_twice (atom_value J env a) _) ∙ ap (xor (atom_value J env a)) (taken_out (same_atom a) (atom_value J env a) (λ b e. same_atom-value a b e) p h))
      (λ h. refl)

  plus-value : (p q : Form) → form_value J env (plus p q) ≡ xor (form_value J env p) (form_value J env q)
  plus-value nothing q = refl
  plus-value (adding a p) q = toggled-value a (plus p q) ∙ ap (xor (atom_value J env a)) (plus-value p q) ∙ xor_assoc (atom_value J env a) (form_value J env p) (form_value J env q)

  times-value : (p q : Form) → form_value J env (times p q) ≡ (form_value J env p && form_value J env q)
  times-value p q = if-value (is_nothing p || is_nothing q) _ _ _
      (λ h. either (is_nothing p) (is_nothing q) h
      (λ k. sym (ap (λ x. x && form_value J env q) (nothing-value p k)))
      (λ k. sym (ap (λ x. form_value J env p && x) (nothing-value q k) ∙ and_false _)))
      (λ h. if-value (is_one p) _ _ _
      (λ k. sym (ap (λ x. x && form_value J env q) (one-value p k)))
      (λ k. if-value (is_one q) _ _ _
      (λ l. sym (ap (λ x. form_value J env p && x) (one-value q l) ∙ and_true _))
      (λ l. if-value (same_form p q) _ _ _
      (λ m. sym (ap (λ x. form_value J env p && x) (sym (same_form-value p q m)) ∙ and_itself _))
      (λ m. xor_false _))))

  choice-value : (t p q : Form) → form_value J env (choice t p q) ≡ xor (form_value J env q) (form_value J env t && xor (form_value J env p) (form_value J env q))
  choice-value t p q = plus-value q (times t (plus p q)) ∙ ap (xor (form_value J env q)) (times-value t (plus p q) ∙ ap (λ x. form_value J env t && x) (plus-value p q))

  bitwise-value : (op : Form → Form → Form) (f : Bool → Bool → Bool) → ((p q : Form) → form_value J env (op p q) ≡ f (form_value J env p) (form_value J env q)) →
      (ps qs : List Form) → values (bitwise op ps qs) ≡ zip_bits f (values ps) (values qs)
  bitwise-value op f h [] qs = refl
  bitwise-value op f h (p ∷ ps) [] = refl
  bitwise-value op f h (p ∷ ps) (q ∷ qs) = ap₂ (λ b v. b ∷ v) (h p q) (bitwise-value op f h ps qs)

  constants-value : (v : Value) → values (map constant v) ≡ v
  constants-value [] = refl
  constants-value (true ∷ v) = ap (λ w. true ∷ w) (constants-value v)
  constants-value (false ∷ v) = ap (λ w. false ∷ w) (constants-value v)

  negated-value : (ps : List Form) → values (map negated ps) ≡ not_bits (values ps)
  negated-value [] = refl
  negated-value (p ∷ ps) = ap₂ (λ b v. b ∷ v) (plus-value p one_form ∙ xor_true _) (negated-value ps)

  -- atoms for each place of a value from one on
  places-value : (v : Value) (i w : ℕ) (atom : ℕ → Atom) (bit : ℕ → Bool) → length v ≡ w → ((k : ℕ) → bit (k + i) ≡ bit_at_place v k) → ((k : ℕ) → atom_value J env (atom k) ≡ bit k) → values (places atom i w) ≡ v
  places-value [] i zero atom bit e h g = refl
  places-value [] i (suc w) atom bit e h g = absurd (omega arith)
  places-value (b ∷ v) i zero atom bit e h g = absurd (omega arith)
  places-value (b ∷ v) i (suc w) atom bit e h g =
      let start : 0 + i ≡ i = omega arith in
      ap₂ (λ b v. b ∷ v) (xor_false _ ∙ g i ∙ sym (ap bit start) ∙ h 0)
      (places-value v (suc i) w atom bit (omega arith) (λ k. let next : k + suc i ≡ suc k + i = omega arith in ap bit next ∙ h (suc k)) g)

  -- all places of a value
  all_places-value : (v : Value) (w : ℕ) (atom : ℕ → Atom) → length v ≡ w → ((k : ℕ) → atom_value J env (atom k) ≡ bit_at_place v k) → values (places atom 0 w) ≡ v
  all_places-value v w atom e g = places-value v 0 w atom (bit_at_place v) e (λ k. let same : k + 0 ≡ k = omega arith in ap (bit_at_place v) same) g

  -- what is left out is zero
  filter-value : (ps : List Form) → are_zero (values (filter (λ p. not (is_nothing p)) ps)) ≡ are_zero (values ps)
  filter-value [] = refl
  filter-value (nothing ∷ ps) = filter-value ps
  filter-value (adding a p ∷ ps) = ap (λ b. not (form_value J env (adding a p)) && b) (filter-value ps)

  one_among-value : (ps : List Form) → list_any is_one ps ≡ true → are_zero (values ps) ≡ false
  one_among-value [] h = cc
  one_among-value (p ∷ ps) h = either (is_one p) (list_any is_one ps) h
      (λ k. ap (λ b. not b && are_zero (values ps)) (one-value p k))
      (λ k. ap (λ b. not (form_value J env p) && b) (one_among-value ps k) ∙ and_false _)

  zero_test-value : (ps : List Form) → form_value J env (zero_test ps) ≡ are_zero (values ps)
  zero_test-value [] = refl
  zero_test-value (p ∷ []) = if-value (list_any is_one (p ∷ [])) _ _ _
      (λ h. sym (one_among-value (p ∷ []) h))
      (λ h. plus-value p one_form ∙ xor_true _ ∙ sym (and_true _))
  zero_test-value (p ∷ q ∷ ps) = if-value (list_any is_one (p ∷ q ∷ ps)) _ _ _
      (λ h. sym (one_among-value (p ∷ q ∷ ps) h))
      (λ h. xor_false _ ∙ ap are_zero (forms_of-value (p ∷ q ∷ ps)))

-- ---- values

at_one_width_is : (a b v : Value) → length a ≡ length b → at_one_width a b v ≡ v
at_one_width_is a b v h = let e : nat_eq (length a) (length b) ≡ true = grind (arith, nat_tests) in rw e

if_true : {X : Type 0} (b : Bool) (x y : X) → b ≡ true → (if b then x else y) ≡ x
if_true b x y e = rw e

-- a choice by one bit
choices-value : (J : Interpretation) (env : List Value) (ts ps qs : List Form) → length (values J env ts) ≡ 1 → length (values J env ps) ≡ length (values J env qs) →
    values J env (choices ts ps qs) ≡ chosen (values J env ts) (values J env ps) (values J env qs) []
choices-value J env [] ps qs h k = absurd (omega arith)
choices-value J env (t ∷ []) ps qs h k = bitwise-value J env (choice t) (λ x y. xor y (form_value J env t && xor x y)) (choice-value J env t) ps qs ∙ go (form_value J env t)
  where
    go : (c : Bool) → zip_bits (λ x y. xor y (c && xor x y)) (values J env ps) (values J env qs) ≡ chosen (c ∷ []) (values J env ps) (values J env qs) []
    go true = zip_choice_true (values J env ps) (values J env qs) k
    go false = zip_choice_false (values J env ps) (values J env qs) k
choices-value J env (t ∷ s ∷ ts) ps qs h k = absurd (omega arith)

module _ (sig : Signature) (J : Interpretation) (interprets : Interprets sig J) (widths : List ℕ) (env : List Value) (fits : FitWidths widths env) where
  -- a typed expression's value has its width
  width : (e : Expression) (w : ℕ) → HasWidth sig widths e w → length (evaluation J env e) ≡ w
  width e w t = length-evaluation sig J interprets widths env e w fits t

  -- the forms of an expression mean its value
  pub linear_forms-value : (e : Expression) (w : ℕ) → HasWidth sig widths e w → values J env (linear_forms sig widths e) ≡ evaluation J env e
  linear_forms-value (literal v) w t = constants-value J env v
  linear_forms-value (variable n) w t =
      rw t (all_places-value J env (variable_value env n) w (variable_bit n) (width (variable n) w t) (λ i. refl))
  linear_forms-value (outer n) w t = absurd t
  linear_forms-value (application f e) w t =
      let same = forms_of-value J env (linear_forms sig widths e) ∙ linear_forms-value e _ t.2 in
      rw t.1 (all_places-value J env (symbol_value J f (evaluation J env e)) _ (symbol_bit f (forms_of (linear_forms sig widths e)))
      (width (application f e) w t ∙ sym t.3)
      (λ i. ap (λ v. bit_at_place (symbol_value J f v) i) same))
  linear_forms-value (exclusive a b) w t =
      bitwise-value J env plus xor (plus-value J env) (linear_forms sig widths a) (linear_forms sig widths b) ∙
      ap₂ xor_bits (linear_forms-value a w t.0) (linear_forms-value b w t.1) ∙
      sym (at_one_width_is _ _ _ (width a w t.0 ∙ sym (width b w t.1)))
  linear_forms-value (conjunction a b) w t =
      bitwise-value J env times ◌&&◌ (times-value J env) (linear_forms sig widths a) (linear_forms sig widths b) ∙
      ap₂ and_bits (linear_forms-value a w t.0) (linear_forms-value b w t.1) ∙
      sym (at_one_width_is _ _ _ (width a w t.0 ∙ sym (width b w t.1)))
  linear_forms-value (negation a) w t = negated-value J env (linear_forms sig widths a) ∙ ap not_bits (linear_forms-value a w t)
  linear_forms-value (concatenation a b) w t =
      let m = width a t.0 t.2 in
      let n = width b t.1 t.3 in
      let within : nat_le (length (evaluation J env a) + length (evaluation J env b)) 128 ≡ true = grind (arith, nat_tests, m, n, t.4, t.5) in
      map-append (form_value J env) (linear_forms sig widths a) (linear_forms sig widths b) ∙ ap₂ ◌++◌ (linear_forms-value a t.0 t.2) (linear_forms-value b t.1 t.3) ∙ sym (if_true _ _ _ within)
  linear_forms-value (segment i n a) w t =
      let m = width a t.0 t.1 in
      let within : nat_le (i + n) (length (evaluation J env a)) ≡ true = grind (arith, nat_tests, m, t.2) in
      sym (take-map (form_value J env) n (drop i (linear_forms sig widths a))) ∙ ap (take n) (sym (drop-map (form_value J env) i (linear_forms sig widths a)) ∙ ap (drop i) (linear_forms-value a t.0 t.1)) ∙ sym (if_true _ _ _ within)
  linear_forms-value (equality a b) w t =
      let same_width = width a t.0 t.1 ∙ sym (width b t.0 t.2) in
      ap (λ x. x ∷ []) (
      zero_test-value J env (filter (λ p. not (is_nothing p)) (bitwise plus (linear_forms sig widths a) (linear_forms sig widths b))) ∙
      filter-value J env (bitwise plus (linear_forms sig widths a) (linear_forms sig widths b)) ∙
      ap are_zero (bitwise-value J env plus xor (plus-value J env) (linear_forms sig widths a) (linear_forms sig widths b) ∙ ap₂ xor_bits (linear_forms-value a t.0 t.1) (linear_forms-value b t.0 t.2)) ∙
      sym (same_bits_by_sum _ _ same_width)) ∙
      sym (at_one_width_is _ _ _ same_width)
  linear_forms-value (selection c a b) w t =
      let cs = linear_forms-value c 1 t.0 in let xs = linear_forms-value a w t.1 in let ys = linear_forms-value b w t.2 in
      let same_width = width a w t.1 ∙ sym (width b w t.2) in
      choices-value J env (linear_forms sig widths c) (linear_forms sig widths a) (linear_forms sig widths b)
      (ap length cs ∙ width c 1 t.0) (ap length xs ∙ same_width ∙ sym (ap length ys)) ∙
      ap (λ x. chosen x (values J env (linear_forms sig widths a)) (values J env (linear_forms sig widths b)) []) cs ∙
      ap₂ (λ x y. chosen (evaluation J env c) x y []) xs ys ∙
      sym (at_one_width_is _ _ _ same_width)

  -- the same forms, the same value
  pub same_forms-evaluation : (a b : Expression) (v w : ℕ) → HasWidth sig widths a v → HasWidth sig widths b w →
      same_forms (forms_of (linear_forms sig widths a)) (forms_of (linear_forms sig widths b)) ≡ true → evaluation J env a ≡ evaluation J env b
  same_forms-evaluation a b v w ta tb h =
      sym (forms_of-value J env (linear_forms sig widths a) ∙ linear_forms-value a v ta) ∙
      same_forms-value J env (forms_of (linear_forms sig widths a)) (forms_of (linear_forms sig widths b)) h ∙
      forms_of-value J env (linear_forms sig widths b) ∙ linear_forms-value b w tb
