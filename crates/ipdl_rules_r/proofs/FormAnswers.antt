-- What the answer on the linear forms of two expressions says of the rule that compares them.
use Rattle.std.proofs.Common.{◌≡◌, ℕ, ◌<◌, ◌≤◌, true, List, Option, Some, None, Ok, Err, reverse, refl, sym, ap, ◌∙◌, subst, inl, inr, arith}
use Rattle.std.specs.Option.{option_or}
use Rattle.std.specs.Prelude.{◌↔◌, ◌⊎◌, Result, IfOk, option_map}
use Rattle.std.proofs.lemmas.Bool.{cases_lt}
use Rattle.std.proofs.lemmas.List.{reverse-reverse}
use Rattle.ipdl_linear.proofs.Differences.{telling-same}
use Rattle.ipdl_linear.specs.Likeness.{Pair, HaveSameForms, IsLarge, first_difference, left_forms, right_forms, likeness_of, pair_of, telling, weight_of}
use Rattle.ipdl_linear.specs.Weights.{greatest_weight}
use Rattle.ipdl_linear.specs.declared.fault.LinearFault.{LinearFault}
use Rattle.ipdl_linear.specs.declared.fault.LinearFault.TheVariants.{Large, Memory}
use Rattle.ipdl_linear.specs.declared.likeness.Likeness.{Likeness}
use Rattle.ipdl_linear.specs.declared.likeness.Likeness.TheVariants.{Same, Differ}
use Rattle.ipdl_rules_r.proofs.TruthRefusals.{refused_above-more, refused_above-none}
use Rattle.ipdl_rules_r.specs.Expressions.{AreFoundAlike, AsksWhere, IsExpressionInstance, pair_at}
use Rattle.ipdl_rules_r.specs.Told.{told_of_forms}
use Rattle.ipdl_rules_r.specs.TruthTests.{TellsTruth, form_refusal, other_forms, refused_above, too_large}
use Rattle.ipdl_rules_r.specs.declared.expressions.ExprFault.TheVariants as E
use Rattle.ipdl_sig.specs.declared.symbol.Symbol.{Symbol}
use Rattle.ipdl_term.specs.Sizes.{saturated}
use Rattle.ipdl_term.specs.Steps.{rule_of}
use Rattle.ipdl_term.specs.Surroundings.{Condition}
use Rattle.ipdl_term.specs.Terms.{Expression}
use Rattle.ipdl_term.specs.Views.{expression_of}
use Rattle.ipdl_term.specs.declared.expression.Expr.{Expr}
use Rattle.ipdl_term.specs.declared.step.Rule.{Rule as HeldRule}
use Rattle.ipdl_term.specs.declared.step.Rule.TheVariants as H
use Rattle.ipdl_truth.specs.Questions.{Question}
use Rattle.ipdl_typing.specs.Signatures.{signature_of}

-- ---- the tests of a pair

module _ (p : Pair) where
  abbrev difference : Option ℕ
  difference = first_difference (left_forms p) (right_forms p)

  form_refusal-light : weight_of p ≤ greatest_weight → form_refusal p ≡ option_map other_forms difference
  form_refusal-light light =
      ap (λ o. option_or o (option_map other_forms difference)) (refused_above-none greatest_weight (weight_of p) (too_large (saturated (weight_of p))) light)

  form_refusal-large : greatest_weight < weight_of p → form_refusal p ≡ Some (too_large (saturated (weight_of p)))
  form_refusal-large above =
      ap (λ o. option_or o (option_map other_forms difference)) (refused_above-more greatest_weight (weight_of p) (too_large (saturated (weight_of p))) above)

  difference-same : (o : Option ℕ) → telling o ≡ Same → o ≡ None
  difference-same None e = refl
  difference-same (Some bit) e = cc

  difference-differ : (o : Option ℕ) (bit : ℕ) → telling o ≡ Differ bit → o ≡ Some bit
  difference-differ None bit e = cc
  difference-differ (Some other) bit e = cc

  none_is_same : (o : Option ℕ) → option_map other_forms o ≡ None → telling o ≡ Same
  none_is_same None e = refl
  none_is_same (Some bit) e = cc

  refusal_of_same : weight_of p ≤ greatest_weight → likeness_of p ≡ Same → form_refusal p ≡ None
  refusal_of_same light same = form_refusal-light light ∙ ap (option_map other_forms) (difference-same difference same)

  alike_is_not_refused : AreFoundAlike p → form_refusal p ≡ None
  alike_is_not_refused alike = refusal_of_same alike.light ((telling-same (left_forms p) (right_forms p)).1 alike.same)

  not_refused_is_alike : form_refusal p ≡ None → AreFoundAlike p
  not_refused_is_alike none =
      let light : weight_of p ≤ greatest_weight = elim (cases_lt greatest_weight (weight_of p)) [
        | inl above ↦ (let told = sym (form_refusal-large above) ∙ none in cc)
        | inr light ↦ light
      ] in
      let same = none_is_same difference (sym (form_refusal-light light) ∙ none) in
      record { light = light; same = (telling-same (left_forms p) (right_forms p)).0 same }

  pub forms_exactly : AreFoundAlike p ↔ (form_refusal p ≡ None)
  forms_exactly = (alike_is_not_refused, not_refused_is_alike)

  -- ---- the answer on it

  module _ (answer : Result Likeness LinearFault) (large : (bits : ℕ) → (answer ≡ Err (Large bits)) ↔ IsLarge p bits) (is : IfOk answer (λ likeness. likeness ≡ likeness_of p)) where
    light_where_told : (likeness : Likeness) → answer ≡ Ok likeness → weight_of p ≤ greatest_weight
    light_where_told likeness e = elim (cases_lt greatest_weight (weight_of p)) [
      | inl above ↦ (let told = (large (saturated (weight_of p))).1 (above, refl) in cc)
      | inr light ↦ light
    ]

    likeness_told : (likeness : Likeness) → answer ≡ Ok likeness → likeness ≡ likeness_of p
    likeness_told likeness e = subst (λ a. IfOk a (λ told. told ≡ likeness_of p)) e is

    pub alike_told : told_of_forms answer ≡ Ok tt → AreFoundAlike p
    alike_told e =
        let same = same_answer answer e in
        let told = likeness_told Same same in
        record { light = light_where_told Same same; same = (telling-same (left_forms p) (right_forms p)).0 (sym told) }
      where
        same_answer : (a : Result Likeness LinearFault) → told_of_forms a ≡ Ok tt → a ≡ Ok Same
        same_answer (Ok Same) e = refl
        same_answer (Ok (Differ bit)) e = cc
        same_answer (Err (Large bits)) e = cc
        same_answer (Err Memory) e = cc

    pub large_forms_told : (bits : ℕ) → (told_of_forms answer ≡ Err (E.Large bits)) ↔ IsLarge p bits
    large_forms_told bits = (λ e. (large bits).0 (large_answer answer e), λ h. ap told_of_forms ((large bits).1 h))
      where
        large_answer : (a : Result Likeness LinearFault) → told_of_forms a ≡ Err (E.Large bits) → a ≡ Err (Large bits)
        large_answer (Ok Same) e = cc
        large_answer (Ok (Differ bit)) e = cc
        large_answer (Err (Large other)) e = cc
        large_answer (Err Memory) e = cc

    pub form_told : (bit : ℕ) → told_of_forms answer ≡ Err (E.NotForm bit) → (weight_of p ≤ greatest_weight) × (likeness_of p ≡ Differ bit)
    form_told bit e =
        let differ = differ_answer answer e in
        (light_where_told (Differ bit) differ, sym (likeness_told (Differ bit) differ))
      where
        differ_answer : (a : Result Likeness LinearFault) → told_of_forms a ≡ Err (E.NotForm bit) → a ≡ Ok (Differ bit)
        differ_answer (Ok Same) e = cc
        differ_answer (Ok (Differ other)) e = cc
        differ_answer (Err (Large bits)) e = cc
        differ_answer (Err Memory) e = cc

    pub alike_or_memory : AreFoundAlike p → (told_of_forms answer ≡ Ok tt) ⊎ (told_of_forms answer ≡ Err E.Memory)
    alike_or_memory alike = by answer refl
      where
        same : likeness_of p ≡ Same
        same = (telling-same (left_forms p) (right_forms p)).1 alike.same

        by : (a : Result Likeness LinearFault) → answer ≡ a → (told_of_forms answer ≡ Ok tt) ⊎ (told_of_forms answer ≡ Err E.Memory)
        by (Ok Same) e = inl (ap told_of_forms e)
        by (Ok (Differ bit)) e = let told = likeness_told (Differ bit) e ∙ same in cc
        by (Err (Large bits)) e = let over = (large bits).0 e in absurd (omega (arith, over.0, alike.light))
        by (Err Memory) e = inr (ap told_of_forms e)

    pub tells_forms : TellsTruth (told_of_forms answer) (form_refusal p)
    tells_forms = by answer refl
      where
        by : (a : Result Likeness LinearFault) → answer ≡ a → TellsTruth (told_of_forms a) (form_refusal p)
        by (Ok Same) e = refusal_of_same (light_where_told Same e) (sym (likeness_told Same e))
        by (Ok (Differ bit)) e =
            form_refusal-light (light_where_told (Differ bit) e)
            ∙ ap (option_map other_forms) (difference-differ difference bit (sym (likeness_told (Differ bit) e)))
        by (Err (Large bits)) e = let over = (large bits).0 e in form_refusal-large over.0 ∙ ap (λ n. Some (too_large n)) (sym over.1)
        by (Err Memory) e = tt

-- ---- at `lin`

module _ (symbols : List Symbol) (widths : List ℕ) (conditions : List Condition) (old : Expr) (rule : HeldRule) (new : Expr) (is : rule ≡ H.Lin new) where
  -- the pair, as it is asked
  abbrev compared : Pair
  compared = pair_of symbols widths old new

  with_widths : List ℕ → Pair
  with_widths ws = record { sig = signature_of symbols; widths = ws; left = expression_of old; right = expression_of new }

  compared_is : compared ≡ pair_at (signature_of symbols) (reverse widths) (expression_of old) (expression_of new)
  unfolding with_widths
  compared_is = ap with_widths (sym (reverse-reverse widths))

  -- what is so of the pair is so of the one that the rule compares
  pub compares : (P : Question → Type 0) (R : Pair → Type 0) → R compared → AsksWhere P R (signature_of symbols) (reverse widths) conditions (rule_of rule) (expression_of old)
  compares P R r =
      let Q : HeldRule → Type 0 = λ x. AsksWhere P R (signature_of symbols) (reverse widths) conditions (rule_of x) (expression_of old) in
      subst Q (sym is) (subst R compared_is r)

  pub is_compared_pair : (P : Question → Type 0) (R : Pair → Type 0) → AsksWhere P R (signature_of symbols) (reverse widths) conditions (rule_of rule) (expression_of old) → R compared
  is_compared_pair P R r =
      let Q : HeldRule → Type 0 = λ x. AsksWhere P R (signature_of symbols) (reverse widths) conditions (rule_of x) (expression_of old) in
      subst R (sym compared_is) (subst Q is r)

  pub instance_of_alike : AreFoundAlike compared → (right : Expression) × IsExpressionInstance (signature_of symbols) (reverse widths) conditions (rule_of rule) (expression_of old) right
  instance_of_alike alike =
      let Q : HeldRule → Type 0 = λ x. IsExpressionInstance (signature_of symbols) (reverse widths) conditions (rule_of x) (expression_of old) (expression_of new) in
      (expression_of new, subst Q (sym is) (subst AreFoundAlike compared_is alike, refl))

  pub alike_of_instance : (right : Expression) → IsExpressionInstance (signature_of symbols) (reverse widths) conditions (rule_of rule) (expression_of old) right → AreFoundAlike compared
  alike_of_instance right h =
      let Q : HeldRule → Type 0 = λ x. IsExpressionInstance (signature_of symbols) (reverse widths) conditions (rule_of x) (expression_of old) right in
      subst AreFoundAlike (sym compared_is) (subst Q is h).0
