-- Why two expressions do not count as the same, as a function of the question, or of the pair whose linear forms are
-- compared. The tests stand in the order in which they are told: of several that fail it is the first.
use Rattle.std.specs.Prelude.{◌≡◌, ℕ, nat_lt, List, Option, Some, None, Result, Ok, Err, option_map, if◌then◌else◌}
use Rattle.std.specs.Option.{option_or}
use Rattle.ipdl_rules_r.specs.declared.expressions.ExprFault.{ExprFault}
use Rattle.ipdl_rules_r.specs.declared.expressions.ExprFault.TheVariants.{NoMatch, Abstract, Large, TooWide, NotSame, NotForm, Memory}
use Rattle.ipdl_linear.specs.Likeness.{Pair, left_forms, right_forms}
use Rattle.ipdl_linear.specs.Likeness as L
use Rattle.ipdl_term.specs.Sizes.{saturated}
use Rattle.ipdl_term.specs.Terms.{Value}
use Rattle.ipdl_truth.specs.FirstDifference.{first_difference}
use Rattle.ipdl_truth.specs.FreeVariables.{greatest_free_bits}
use Rattle.ipdl_truth.specs.Questions.{Question, first_abstract, weight_of, free_bits}
use Rattle.ipdl_truth.specs.Weights.{greatest_weight}

pub data TruthRefusal : Type 0 where
  abstract_symbol : (number : ℕ) → TruthRefusal
  too_large : (bits : ℕ) → TruthRefusal
  too_wide : (bits : ℕ) → TruthRefusal
  differ_at : (valuation : List (ℕ × Value)) → TruthRefusal
  -- the linear forms of this bit differ, or only one of the two expressions has it
  other_forms : (bit : ℕ) → TruthRefusal

-- refused where the number is above the most
abbrev pub refused_above : (most number : ℕ) → TruthRefusal → Option TruthRefusal
refused_above most number refusal = if nat_lt most number then Some refusal else None

-- An abstract symbol occurs; the widths of all subexpressions add up to too much, or those of the free variables do; the
-- two expressions differ where the conditions are met.
abbrev pub truth_refusal : Question → Option TruthRefusal
truth_refusal q =
    option_or (option_map abstract_symbol (first_abstract q))
    (option_or (refused_above greatest_weight (weight_of q) (too_large (saturated (weight_of q))))
    (option_or (refused_above greatest_free_bits (free_bits q) (too_wide (free_bits q))) (option_map differ_at (first_difference q))))

-- The widths of all subexpressions add up to too much; the linear forms of a bit differ.
abbrev pub form_refusal : Pair → Option TruthRefusal
form_refusal p =
    option_or (refused_above greatest_weight (L.weight_of p) (too_large (saturated (L.weight_of p))))
    (option_map other_forms (L.first_difference (left_forms p) (right_forms p)))

-- the answer on a rule that asks tells it, unless memory ran out
abbrev pub TellsTruth : Result (Unit {0}) ExprFault → Option TruthRefusal → Type 0
TellsTruth (Ok _) refusal = refusal ≡ None
TellsTruth (Err (Abstract symbol)) refusal = refusal ≡ Some (abstract_symbol symbol)
TellsTruth (Err (Large bits)) refusal = refusal ≡ Some (too_large bits)
TellsTruth (Err (TooWide bits)) refusal = refusal ≡ Some (too_wide bits)
TellsTruth (Err (NotSame valuation)) refusal = refusal ≡ Some (differ_at valuation)
TellsTruth (Err (NotForm bit)) refusal = refusal ≡ Some (other_forms bit)
TellsTruth (Err Memory) refusal = Unit {0}
TellsTruth (Err NoMatch) refusal = ⊥
