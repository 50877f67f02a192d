-- One valuation after another: what the values at a number say of all values that are read as it.
use Rattle.std.proofs.Common.{◌≡◌, ℕ, zero, suc, ◌+◌, ◌<◌, ◌^◌, true, false, List, [], ◌∷◌, ◌++◌, length, reverse, refl, sym, ap, ◌∙◌, subst, arith}
use Rattle.std.proofs.lemmas.Bool.Decides.{nat_tests}
use Rattle.std.proofs.lemmas.List.{reverse-append, length-reverse}
use Rattle.std.specs.Prelude.{nat_eq}
use Rattle.ipdl_term.specs.Interpretations.{Interpretation, variable_value, evaluation}
use Rattle.ipdl_term.specs.Surroundings.{Condition, Meets}
use Rattle.ipdl_term.specs.Terms.{Value, Expression}
use Rattle.ipdl_term.specs.Variables.{expression_uses}
use Rattle.ipdl_truth.proofs.FreeValues.{by_test, free_of-here, free_of-other, length-FitWidths, reading-valued, valued-reading, reading-below, all_values, FitWidths-all_values, free_of-all_values, free_of-put_in}
use Rattle.ipdl_truth.proofs.Variables.{or-left, or-right, evaluation_by_variables}
use Rattle.ipdl_truth.specs.Agreement.{IsAllowed, AgreeOn, AgreeEverywhere, DifferFirstAt}
use Rattle.ipdl_truth.specs.FreeVariables.{occurs, free_of, reading}
use Rattle.ipdl_truth.specs.Questions.{Question, tests_of, expressions_in, free_variables, free_bits, valuation_of}
use Rattle.ipdl_truth.specs.Tables.{tables_of}
use Rattle.ipdl_truth.specs.Valuations.{valued, put_in}

-- ---- the variables that occur

-- the last value of a list
last_value : (env : List Value) (v : Value) → variable_value (env ++ v ∷ []) (length env) ≡ v
last_value [] v = refl
last_value (u ∷ env) v = last_value env v

-- every other
other_value : (env : List Value) (v : Value) (n : ℕ) → (n ≡ length env → ⊥) → variable_value (env ++ v ∷ []) n ≡ variable_value env n
other_value [] v zero ne = absurd (ne refl)
other_value [] v (suc n) ne = refl
other_value (u ∷ env) v zero ne = refl
other_value (u ∷ env) v (suc n) ne = other_value env v n (λ e. ne (ap suc e))

-- the value of the outermost binder, and of every other
outermost_value : (v : Value) (env : List Value) (n : ℕ) → n ≡ length env → variable_value (reverse (v ∷ env)) n ≡ v
outermost_value v env n e =
    ap (λ l. variable_value l n) (reverse-append (v ∷ []) env)
    ∙ ap (variable_value (reverse env ++ v ∷ [])) (e ∙ sym (length-reverse env))
    ∙ last_value (reverse env) v

inner_value : (v : Value) (env : List Value) (n : ℕ) → (n ≡ length env → ⊥) → variable_value (reverse (v ∷ env)) n ≡ variable_value (reverse env) n
inner_value v env n ne =
    ap (λ l. variable_value l n) (reverse-append (v ∷ []) env)
    ∙ other_value (reverse env) v n (λ e. ne (e ∙ length-reverse env))

same_number : (m n : ℕ) → nat_eq m n ≡ true → m ≡ n
same_number m n e = grind (arith, nat_tests)

other_number : (m n : ℕ) → nat_eq m n ≡ false → m ≡ n → ⊥
other_number m n e k = grind (arith, nat_tests)

-- the first of listed values, and the rest
abbrev first_of : List (ℕ × Value) → Value
first_of [] = []
first_of (x ∷ xs) = x.1

abbrev rest_of : List (ℕ × Value) → List (ℕ × Value)
rest_of [] = []
rest_of (x ∷ xs) = xs

-- where the free variables have the same values, each variable that occurs has
free_value : (es : List Expression) (depth : ℕ) (env others : List Value) (n : ℕ) → length env ≡ length others → free_of es depth env ≡ free_of es depth others → occurs es n ≡ true → variable_value (reverse env) n ≡ variable_value (reverse others) n
free_value es depth [] [] n same values used = refl
free_value es depth [] (u ∷ others) n same values used = absurd (omega arith)
free_value es depth (v ∷ env) [] n same values used = absurd (omega arith)
free_value es depth (v ∷ env) (u ∷ others) n same values used =
    let rest : length env ≡ length others = omega arith in
    by_test (occurs es (length env))
    (λ here.
    let both : (depth, v) ∷ free_of es (suc depth) env ≡ (depth, u) ∷ free_of es (suc depth) others = sym (free_of-here es depth v env here) ∙ values ∙ free_of-here es depth u others (sym (ap (occurs es) rest) ∙ here) in
    let first : v ≡ u = ap first_of both in
    let later : free_of es (suc depth) env ≡ free_of es (suc depth) others = ap rest_of both in
    by_test (nat_eq n (length env))
    (λ t. let e = same_number n (length env) t in outermost_value v env n e ∙ first ∙ sym (outermost_value u others n (e ∙ rest)))
    (λ f.
    let ne = other_number n (length env) f in
    inner_value v env n ne ∙ free_value es (suc depth) env others n rest later used ∙ sym (inner_value u others n (λ e. ne (e ∙ sym rest)))))
    (λ there.
    let later = sym (free_of-other es depth v env there) ∙ values ∙ free_of-other es depth u others (sym (ap (occurs es) rest) ∙ there) in
    let ne : n ≡ length env → ⊥ = λ e. let f : true ≡ false = sym used ∙ ap (occurs es) e ∙ there in cc in
    inner_value v env n ne ∙ free_value es (suc depth) env others n rest later used ∙ sym (inner_value u others n (λ e. ne (e ∙ sym rest))))

-- conditions whose variables have the same values are met alike
Meets-same : (J : Interpretation) (env others : List Value) (conditions : List Condition) → ((n : ℕ) → occurs (tests_of conditions) n ≡ true → variable_value env n ≡ variable_value others n) → Meets J env conditions → Meets J others conditions
Meets-same J env others [] same met = tt
Meets-same J env others (c ∷ conditions) same met = (
  sym (evaluation_by_variables J env others c.test (λ n uses. same n (or-left (expression_uses c.test n) (occurs (tests_of conditions) n) uses))) ∙ met.0,
  Meets-same J env others conditions (λ n uses. same n (or-right (expression_uses c.test n) (occurs (tests_of conditions) n) uses)) met.1,
)

-- ---- a question

module _ (q : Question) where
  -- values of the binders that are the same at the free variables
  pub record SameFree (env others : List Value) : Type 0 where
    pub binders : length env ≡ length others
    pub values : valuation_of q env ≡ valuation_of q others

  same_variables : (env others : List Value) → SameFree env others → (n : ℕ) → occurs (expressions_in q) n ≡ true → variable_value (reverse env) n ≡ variable_value (reverse others) n
  same_variables env others same n used = free_value (expressions_in q) 0 env others n same.binders same.values used

  turned : (env others : List Value) → SameFree env others → SameFree others env
  turned env others same = record { binders = sym same.binders; values = sym same.values }

  left_same : (env others : List Value) → SameFree env others → evaluation (tables_of q.sig) (reverse env) q.left ≡ evaluation (tables_of q.sig) (reverse others) q.left
  left_same env others same = evaluation_by_variables (tables_of q.sig) (reverse env) (reverse others) q.left
      (λ n uses. same_variables env others same n (or-left (expression_uses q.left n) (occurs (q.right ∷ tests_of q.conditions) n) uses))

  right_same : (env others : List Value) → SameFree env others → evaluation (tables_of q.sig) (reverse env) q.right ≡ evaluation (tables_of q.sig) (reverse others) q.right
  right_same env others same = evaluation_by_variables (tables_of q.sig) (reverse env) (reverse others) q.right
      (λ n uses. same_variables env others same n
      (or-right (expression_uses q.left n) (occurs (q.right ∷ tests_of q.conditions) n)
      (or-left (expression_uses q.right n) (occurs (tests_of q.conditions) n) uses)))

  AgreeOn-same : (env others : List Value) → SameFree env others → AgreeOn q env → AgreeOn q others
  AgreeOn-same env others same agree = sym (left_same env others same) ∙ agree ∙ right_same env others same

  Met-same : (env others : List Value) → SameFree env others → Meets (tables_of q.sig) (reverse env) q.conditions → Meets (tables_of q.sig) (reverse others) q.conditions
  Met-same env others same met = Meets-same (tables_of q.sig) (reverse env) (reverse others) q.conditions
      (λ n uses. same_variables env others same n
      (or-right (expression_uses q.left n) (occurs (q.right ∷ tests_of q.conditions) n)
      (or-right (expression_uses q.right n) (occurs (tests_of q.conditions) n) uses)))
      met

  -- the values of all binders after those of a number are put in
  pub binders_after : (env : List Value) (n : ℕ) → length env ≡ length q.widths → length (put_in (valued (free_variables q) n) env) ≡ length q.widths
  binders_after env n binders = (free_of-put_in (expressions_in q) q.widths env n binders).0

  -- all values that are read as the number agree, where those that were put in do
  pub agree_at : (env : List Value) (n : ℕ) → length env ≡ length q.widths →
      (Meets (tables_of q.sig) (reverse (put_in (valued (free_variables q) n) env)) q.conditions → AgreeOn q (put_in (valued (free_variables q) n) env)) →
      (others : List Value) → IsAllowed q others → reading (valuation_of q others) ≡ n → AgreeOn q others
  agree_at env n binders told others allowed is =
      let put = put_in (valued (free_variables q) n) env in
      let r = free_of-put_in (expressions_in q) q.widths env n binders in
      let same : SameFree put others = record {
        binders = r.0 ∙ sym (length-FitWidths q.widths others allowed.widths);
        values = r.1 ∙ ap (valued (free_variables q)) (sym is) ∙ valued-reading (expressions_in q) q.widths others allowed.widths;
      } in
      AgreeOn-same put others same (told (Met-same others put (turned put others same) allowed.conditions))

  -- they differ first at the number, where they differ on the values that were put in and agree below
  pub differ_at : (env : List Value) (n : ℕ) → length env ≡ length q.widths → n < 2 ^ free_bits q →
      Meets (tables_of q.sig) (reverse (put_in (valued (free_variables q) n) env)) q.conditions →
      (AgreeOn q (put_in (valued (free_variables q) n) env) → ⊥) →
      ((others : List Value) → IsAllowed q others → reading (valuation_of q others) < n → AgreeOn q others) →
      DifferFirstAt q (valued (free_variables q) n)
  differ_at env n binders below met differ agree =
      let put = put_in (valued (free_variables q) n) env in
      let full = all_values (expressions_in q) 0 q.widths n in
      let r = free_of-put_in (expressions_in q) q.widths env n binders in
      let fits = FitWidths-all_values (expressions_in q) 0 q.widths n in
      let values = free_of-all_values (expressions_in q) 0 q.widths n in
      let same : SameFree put full = record {
        binders = r.0 ∙ sym (length-FitWidths q.widths full fits);
        values = r.1 ∙ sym values;
      } in
      record {
        env = full;
        allowed = record { widths = fits; conditions = Met-same put full same met };
        values = values;
        differ = λ a. differ (AgreeOn-same full put (turned put full same) a);
        first = λ others allowed less.
            let P : ℕ → Type 0 = λ m. reading (valuation_of q others) < m in
            agree others allowed (subst P (reading-valued (free_variables q) n below) less);
      }

  -- after the last number they agree everywhere
  pub agree_everywhere : ((others : List Value) → IsAllowed q others → reading (valuation_of q others) < 2 ^ free_bits q → AgreeOn q others) → AgreeEverywhere q
  agree_everywhere agree others allowed = agree others allowed (reading-below (expressions_in q) q.widths others allowed.widths)

  -- those that agree below a number and at it agree below the next
  pub agree_below_next : (env : List Value) (n : ℕ) → length env ≡ length q.widths →
      (Meets (tables_of q.sig) (reverse (put_in (valued (free_variables q) n) env)) q.conditions → AgreeOn q (put_in (valued (free_variables q) n) env)) →
      ((others : List Value) → IsAllowed q others → reading (valuation_of q others) < n → AgreeOn q others) →
      (others : List Value) → IsAllowed q others → reading (valuation_of q others) < n + 1 → AgreeOn q others
  agree_below_next env n binders told below others allowed less =
      by_test (nat_eq (reading (valuation_of q others)) n)
      (λ t. agree_at env n binders told others allowed (same_number (reading (valuation_of q others)) n t))
      (λ f.
      let ne = other_number (reading (valuation_of q others)) n f in
      below others allowed (lower (reading (valuation_of q others)) n less ne))
    where
      lower : (m k : ℕ) → m < k + 1 → (m ≡ k → ⊥) → m < k
      lower m k h ne = omega arith
