-- What stands for each variable, under some binders, where variables are lowered, exchanged, replaced or joined.
use Rattle.std.proofs.Common.{◌≡◌, inl, inr, ℕ, suc, ◌+◌, ◌-◌, ◌<◌, ◌≤◌, true, false, [], sym, ap, ◌∙◌, arith}
use Rattle.std.proofs.lemmas.Bool.{cases_order}
use Rattle.std.proofs.lemmas.Bool.Decides.{nat_tests}
use Rattle.std.specs.Prelude.{if◌then◌else◌, nat_eq, nat_lt}
use Rattle.ipdl_laws.proofs.Sets.{if-true, if-false}
use Rattle.ipdl_laws.proofs.Substitution.{lifted_number-all}
use Rattle.ipdl_term.specs.Terms.{Expression, literal, variable, segment}
use Rattle.ipdl_term.specs.Variables.{lifted_number, lifted_expression, put_number, put_expression}

pub by_order : {P : Type 0} (m n : ℕ) → (m < n → P) → (m ≡ n → P) → (n < m → P) → P
by_order m n below same above = elim (cases_order m n) [ inl e ↦ same e | inr o ↦ elim o [ inl l ↦ below l | inr l ↦ above l ] ]

-- ---- one variable

pub stays : (from by n : ℕ) → n < from → lifted_number from by n ≡ n
stays from by n h = if-true (nat_lt n from) n (n + by) (grind (arith, nat_tests))

pub grows : (from by n : ℕ) → from ≤ n → lifted_number from by n ≡ n + by
grows from by n h = if-false (nat_lt n from) n (n + by) (grind (arith, nat_tests))

pub put-near : (d : ℕ) (x : Expression) (n : ℕ) → n < d → put_number d x n ≡ variable n
put-near d x n h = if-true (nat_lt n d) (variable n) _ (grind (arith, nat_tests))

pub put-here : (d : ℕ) (x : Expression) (n : ℕ) → n ≡ d → put_number d x n ≡ lifted_expression x 0 d
put-here d x n h =
    if-false (nat_lt n d) (variable n) (if nat_eq n d then lifted_expression x 0 d else variable (n - 1)) (grind (arith, nat_tests)) ∙
    if-true (nat_eq n d) (lifted_expression x 0 d) (variable (n - 1)) (grind (arith, nat_tests))

pub put-behind : (d : ℕ) (x : Expression) (n : ℕ) → d < n → put_number d x n ≡ variable (n - 1)
put-behind d x n h =
    if-false (nat_lt n d) (variable n) (if nat_eq n d then lifted_expression x 0 d else variable (n - 1)) (grind (arith, nat_tests)) ∙
    if-false (nat_eq n d) (lifted_expression x 0 d) (variable (n - 1)) (grind (arith, nat_tests))

-- by which of two numbers a variable has, or another one
pub at_first : {A : Type 0} (d n : ℕ) (a b c : A) → n ≡ d → (if nat_eq n d then a else (if nat_eq n (suc d) then b else c)) ≡ a
at_first d n a b c h = if-true (nat_eq n d) a (if nat_eq n (suc d) then b else c) (grind (arith, nat_tests))

pub at_second : {A : Type 0} (d n : ℕ) (a b c : A) → n ≡ suc d → (if nat_eq n d then a else (if nat_eq n (suc d) then b else c)) ≡ b
at_second d n a b c h =
    if-false (nat_eq n d) a (if nat_eq n (suc d) then b else c) (grind (arith, nat_tests)) ∙ if-true (nat_eq n (suc d)) b c (grind (arith, nat_tests))

pub at_neither : {A : Type 0} (d n : ℕ) (a b c : A) → (n ≡ d → ⊥) → (n ≡ suc d → ⊥) → (if nat_eq n d then a else (if nat_eq n (suc d) then b else c)) ≡ c
at_neither d n a b c h k =
    if-false (nat_eq n d) a (if nat_eq n (suc d) then b else c) (grind (arith, nat_tests)) ∙ if-false (nat_eq n (suc d)) b c (grind (arith, nat_tests))

-- ---- the changes

pub variables_lowered : (d n : ℕ) → nat_eq n d ≡ false → put_expression d (variable n) (literal []) ≡ variable (if nat_lt n d then n else (n - 1))
variables_lowered d n other = by_order n d
    (λ l. put-near d (literal []) n l ∙ ap variable (sym (if-true (nat_lt n d) n (n - 1) (grind (arith, nat_tests)))))
    (λ e. let same : nat_eq n d ≡ true = grind (arith, nat_tests) in cc)
    (λ l. put-behind d (literal []) n l ∙ ap variable (sym (if-false (nat_lt n d) n (n - 1) (grind (arith, nat_tests)))))

pub variables_exchanged : (d n : ℕ) → put_expression d (lifted_expression (variable n) (suc (suc d)) 1) (variable 1) ≡ (if nat_eq n d then variable (suc d) else (if nat_eq n (suc d) then variable d else variable n))
variables_exchanged d n = by_order n d
    (λ l. ap put (stays (suc (suc d)) 1 n (omega arith)) ∙ put-near d (variable 1) n l ∙
    sym (at_neither d n (variable (suc d)) (variable d) (variable n) (λ e. absurd (omega arith)) (λ e. absurd (omega arith))))
    (λ e. ap put (stays (suc (suc d)) 1 n (omega arith)) ∙ put-here d (variable 1) n e ∙ ap variable (lifted_number-all d 1 ∙ one_more) ∙
    sym (at_first d n (variable (suc d)) (variable d) (variable n) e))
    (λ l. by_order n (suc d)
    (λ k. absurd (omega arith))
    (λ e. let before : n - 1 ≡ d = omega arith in
    ap put (stays (suc (suc d)) 1 n (omega arith)) ∙ put-behind d (variable 1) n l ∙ ap variable before ∙
    sym (at_second d n (variable (suc d)) (variable d) (variable n) e))
    (λ k. let back : n + 1 - 1 ≡ n = omega arith in
    ap put (grows (suc (suc d)) 1 n (omega arith)) ∙ put-behind d (variable 1) (n + 1) (omega arith) ∙ ap variable back ∙
    sym (at_neither d n (variable (suc d)) (variable d) (variable n) (λ e. absurd (omega arith)) (λ e. absurd (omega arith)))))
  where
    put : ℕ → Expression
    put = put_number d (variable 1)

    one_more : 1 + d ≡ suc d
    one_more = omega arith

pub variables_replaced : (d n : ℕ) (x : Expression) → put_expression d (lifted_expression (variable n) (suc d) 1) x ≡ (if nat_eq n d then lifted_expression x 0 d else variable n)
variables_replaced d n x = by_order n d
    (λ l. ap (put_number d x) (stays (suc d) 1 n (omega arith)) ∙ put-near d x n l ∙ sym (if-false (nat_eq n d) (lifted_expression x 0 d) (variable n) (grind (arith, nat_tests))))
    (λ e. ap (put_number d x) (stays (suc d) 1 n (omega arith)) ∙ put-here d x n e ∙ sym (if-true (nat_eq n d) (lifted_expression x 0 d) (variable n) (grind (arith, nat_tests))))
    (λ l. let back : n + 1 - 1 ≡ n = omega arith in
    ap (put_number d x) (grows (suc d) 1 n (omega arith)) ∙ put-behind d x (n + 1) (omega arith) ∙ ap variable back ∙
    sym (if-false (nat_eq n d) (lifted_expression x 0 d) (variable n) (grind (arith, nat_tests))))

module _ (v w d : ℕ) where
  -- the cuts, as they are put one after the other
  abbrev second_cut : Expression
  second_cut = segment v w (variable 1)

  abbrev first_cut : Expression
  first_cut = segment 0 v (variable 0)

  abbrev joined : ℕ → Expression
  joined n = put_expression d (put_expression d (lifted_expression (variable n) (suc (suc d)) 1) second_cut) first_cut

  abbrev left_as_is : ℕ → Expression
  left_as_is n = if nat_lt n d then variable n else variable (n - 1)

  pub variables_joined : (n : ℕ) → joined n ≡ (if nat_eq n d then segment v w (variable d) else (if nat_eq n (suc d) then segment 0 v (variable d) else left_as_is n))
  variables_joined n = by_order n d
      (λ l. ap twice (stays (suc (suc d)) 1 n (omega arith)) ∙ ap first (put-near d second_cut n l) ∙ put-near d first_cut n l ∙
      sym (at_neither d n a b (left_as_is n) (λ e. absurd (omega arith)) (λ e. absurd (omega arith)) ∙ if-true (nat_lt n d) (variable n) (variable (n - 1)) (grind (arith, nat_tests))))
      (λ e. ap twice (stays (suc (suc d)) 1 n (omega arith)) ∙ ap first (put-here d second_cut n e) ∙ ap (λ m. segment v w (put_number d first_cut m)) (lifted_number-all d 1) ∙ ap (segment v w) (put-behind d first_cut (1 + d) (omega arith) ∙ ap variable back_one) ∙
      sym (at_first d n a b (left_as_is n) e))
      (λ l. by_order n (suc d)
      (λ k. absurd (omega arith))
      (λ e. let before : n - 1 ≡ d = omega arith in
      ap twice (stays (suc (suc d)) 1 n (omega arith)) ∙ ap first (put-behind d second_cut n l) ∙ put-here d first_cut (n - 1) before ∙ ap (λ m. segment 0 v (variable m)) (lifted_number-all d 0 ∙ no_more) ∙
      sym (at_second d n a b (left_as_is n) e))
      (λ k. let back : n + 1 - 1 ≡ n = omega arith in
      ap twice (grows (suc (suc d)) 1 n (omega arith)) ∙ ap first (put-behind d second_cut (n + 1) (omega arith) ∙ ap variable back) ∙ put-behind d first_cut n l ∙
      sym (at_neither d n a b (left_as_is n) (λ e. absurd (omega arith)) (λ e. absurd (omega arith)) ∙ if-false (nat_lt n d) (variable n) (variable (n - 1)) (grind (arith, nat_tests)))))
    where
      first : Expression → Expression
      first = λ x. put_expression d x first_cut

      twice : ℕ → Expression
      twice = λ m. first (put_number d second_cut m)

      a : Expression
      a = segment v w (variable d)

      b : Expression
      b = segment 0 v (variable d)

      back_one : 1 + d - 1 ≡ d
      back_one = omega arith

      no_more : 0 + d ≡ d
      no_more = omega arith
