-- A question of truth is answered by "the same" exactly where no test refuses it, and the answer tells the first test that
-- does.
use Rattle.std.proofs.Common.{◌≡◌, ℕ, ◌<◌, ◌≤◌, true, false, List, Option, Some, None, Ok, Err, refl, sym, ap, ◌∙◌, inl, inr, arith}
use Rattle.std.proofs.lemmas.Bool.{cases_lt}
use Rattle.std.proofs.lemmas.Bool.Decides.{nat_tests}
use Rattle.std.specs.Option.{option_or}
use Rattle.std.specs.Prelude.{◌↔◌, Result, nat_lt, option_map}
use Rattle.ipdl_rules_r.proofs.ExpressionAnswers.{TellsAbstract, TellsLarge, TellsWide, TellsSame, IsCompared, answered_same, is_compared}
use Rattle.ipdl_rules_r.specs.Expressions.{IsAnsweredSame}
use Rattle.ipdl_rules_r.specs.Told.{told_of}
use Rattle.ipdl_rules_r.specs.TruthTests.{TruthRefusal, abstract_symbol, too_large, too_wide, differ_at, refused_above, truth_refusal, TellsTruth}
use Rattle.ipdl_term.specs.Sizes.{saturated}
use Rattle.ipdl_term.specs.Terms.{Value}
use Rattle.ipdl_truth.proofs.FirstDifferences.{first_difference_exactly}
use Rattle.ipdl_truth.specs.Agreement.{DifferFirstAt}
use Rattle.ipdl_truth.specs.FirstDifference.{first_difference}
use Rattle.ipdl_truth.specs.FreeVariables.{greatest_free_bits}
use Rattle.ipdl_truth.specs.Questions.{Question, first_abstract, weight_of, free_bits}
use Rattle.ipdl_truth.specs.Weights.{greatest_weight}
use Rattle.ipdl_truth.specs.declared.agreement.Agreement.{Agreement}
use Rattle.ipdl_truth.specs.declared.agreement.Agreement.TheVariants.{Same, Differ}
use Rattle.ipdl_truth.specs.declared.agreement.TruthFault.{TruthFault}
use Rattle.ipdl_truth.specs.declared.agreement.TruthFault.TheVariants.{Abstract, Large, TooWide, Memory}

is_above : (a b : ℕ) → a < b → nat_lt a b ≡ true
is_above a b above = grind (arith, nat_tests)

is_not_above : (a b : ℕ) → b ≤ a → nat_lt a b ≡ false
is_not_above a b within = grind (arith, nat_tests)

pub refused_above-more : (most number : ℕ) (refusal : TruthRefusal) → most < number → refused_above most number refusal ≡ Some refusal
refused_above-more most number refusal above = rw (is_above most number above) refl

pub refused_above-none : (most number : ℕ) (refusal : TruthRefusal) → number ≤ most → refused_above most number refusal ≡ None
refused_above-none most number refusal within = rw (is_not_above most number within) refl

-- ---- the first test that fails

module _ (q : Question) where
  -- the tests of the two sums, and what is told where they pass
  abbrev large_refusal : Option TruthRefusal
  large_refusal = refused_above greatest_weight (weight_of q) (too_large (saturated (weight_of q)))

  abbrev wide_refusal : Option TruthRefusal
  wide_refusal = refused_above greatest_free_bits (free_bits q) (too_wide (free_bits q))

  abbrev difference_refusal : Option TruthRefusal
  difference_refusal = option_map differ_at (first_difference q)

  truth_refusal-abstract : (symbol : ℕ) → first_abstract q ≡ Some symbol → truth_refusal q ≡ Some (abstract_symbol symbol)
  truth_refusal-abstract symbol is = ap (λ o. option_or (option_map abstract_symbol o) (option_or large_refusal (option_or wide_refusal difference_refusal))) is

  truth_refusal-tables : first_abstract q ≡ None → truth_refusal q ≡ option_or large_refusal (option_or wide_refusal difference_refusal)
  truth_refusal-tables tables = ap (λ o. option_or (option_map abstract_symbol o) (option_or large_refusal (option_or wide_refusal difference_refusal))) tables

  truth_refusal-large : first_abstract q ≡ None → greatest_weight < weight_of q → truth_refusal q ≡ Some (too_large (saturated (weight_of q)))
  truth_refusal-large tables above =
      truth_refusal-tables tables
      ∙ ap (λ o. option_or o (option_or wide_refusal difference_refusal)) (refused_above-more greatest_weight (weight_of q) (too_large (saturated (weight_of q))) above)

  truth_refusal-light : first_abstract q ≡ None → weight_of q ≤ greatest_weight → truth_refusal q ≡ option_or wide_refusal difference_refusal
  truth_refusal-light tables light =
      truth_refusal-tables tables
      ∙ ap (λ o. option_or o (option_or wide_refusal difference_refusal)) (refused_above-none greatest_weight (weight_of q) (too_large (saturated (weight_of q))) light)

  truth_refusal-wide : first_abstract q ≡ None → weight_of q ≤ greatest_weight → greatest_free_bits < free_bits q → truth_refusal q ≡ Some (too_wide (free_bits q))
  truth_refusal-wide tables light above =
      truth_refusal-light tables light
      ∙ ap (λ o. option_or o difference_refusal) (refused_above-more greatest_free_bits (free_bits q) (too_wide (free_bits q)) above)

  truth_refusal-narrow : IsCompared q → truth_refusal q ≡ option_map differ_at (first_difference q)
  truth_refusal-narrow h =
      truth_refusal-light h.tables h.light
      ∙ ap (λ o. option_or o difference_refusal) (refused_above-none greatest_free_bits (free_bits q) (too_wide (free_bits q)) h.narrow)

  -- ---- no test fails

  none_from_same : IsAnsweredSame q → truth_refusal q ≡ None
  none_from_same h =
      truth_refusal-narrow (record { tables = h.tables; light = h.light; narrow = h.narrow })
      ∙ ap (option_map differ_at) ((first_difference_exactly q).1.1 h.agree)

  tables_from_none : (o : Option ℕ) → first_abstract q ≡ o → truth_refusal q ≡ None → first_abstract q ≡ None
  tables_from_none None is none = is
  tables_from_none (Some symbol) is none = let k = truth_refusal-abstract symbol is in cc

  compared_from_none : truth_refusal q ≡ None → IsCompared q
  compared_from_none none =
      let tables = tables_from_none (first_abstract q) refl none in
      let light : weight_of q ≤ greatest_weight = elim (cases_lt greatest_weight (weight_of q)) [
        | inl above ↦ (let k = truth_refusal-large tables above in cc)
        | inr within ↦ within
      ] in
      let narrow : free_bits q ≤ greatest_free_bits = elim (cases_lt greatest_free_bits (free_bits q)) [
        | inl above ↦ (let k = truth_refusal-wide tables light above in cc)
        | inr within ↦ within
      ] in
      record { tables = tables; light = light; narrow = narrow }

  no_difference : (o : Option (List (ℕ × Value))) → option_map differ_at o ≡ None → o ≡ None
  no_difference None e = refl
  no_difference (Some valuation) e = cc

  same_from_none : truth_refusal q ≡ None → IsAnsweredSame q
  same_from_none none =
      let h = compared_from_none none in
      let difference = no_difference (first_difference q) (sym (truth_refusal-narrow h) ∙ none) in
      record { tables = h.tables; light = h.light; narrow = h.narrow; agree = (first_difference_exactly q).1.0 difference }

  pub truth_exactly : IsAnsweredSame q ↔ (truth_refusal q ≡ None)
  truth_exactly = (none_from_same, same_from_none)

  -- ---- what is told

  pub tells_truth : (answer : Result Agreement TruthFault) → TellsAbstract q answer → TellsLarge q answer → TellsWide q answer → TellsSame q answer →
      ((valuation : List (ℕ × Value)) → answer ≡ Ok (Differ valuation) → DifferFirstAt q valuation) →
      TellsTruth (told_of answer) (truth_refusal q)
  tells_truth (Ok Same) abstracts large wide same differ = none_from_same (answered_same q (Ok Same) abstracts large wide same refl)
  tells_truth (Ok (Differ valuation)) abstracts large wide same differ =
      truth_refusal-narrow (is_compared q (Ok (Differ valuation)) abstracts large wide (Differ valuation) refl)
      ∙ ap (option_map differ_at) (((first_difference_exactly q).0 valuation).1 (differ valuation refl))
  tells_truth (Err (Abstract symbol)) abstracts large wide same differ = truth_refusal-abstract symbol ((abstracts symbol).0 refl)
  tells_truth (Err (Large bits)) abstracts large wide same differ =
      let k = (large bits).0 refl in
      truth_refusal-large k.0 k.1 ∙ ap (λ n. Some (too_large n)) (sym k.2)
  tells_truth (Err (TooWide bits)) abstracts large wide same differ =
      let k = (wide bits).0 refl in
      truth_refusal-wide k.0 k.1 k.2 ∙ ap (λ n. Some (too_wide n)) (sym k.3)
  tells_truth (Err Memory) abstracts large wide same differ = tt
