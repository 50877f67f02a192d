-- Totals of what a reaction gives, over all tapes of a length.
use Rattle.std.specs.Prelude.{◌≡◌, ℕ, zero, suc, ◌+◌, ◌*◌, ◌^◌, List, ◌∷◌, Option, Some, None, length}
use Rattle.ipdl_term.specs.Terms.{Value, Reaction}
use Rattle.ipdl_term.specs.Interpretations.{Interpretation}
use Rattle.ipdl_term.specs.Valuations.{Valuation}
use Rattle.ipdl_term.specs.Reactions.{Outcome, outcome_value, reaction_outcome}
use Rattle.ipdl_term.specs.Counts.{total, tape_count, same_value}

-- a weight of each value, and of being stuck
abbrev pub Weight : Type 0
Weight = Option Value → ℕ

-- the sum over all tapes of n bits of the weight of what the reaction gives there
abbrev pub reaction_total : Interpretation → Reaction → List Value → Valuation → ℕ → Weight → ℕ
reaction_total J r env inputs n weight = total n (λ tape. weight (outcome_value (reaction_outcome J r env inputs tape)))

-- the number of tapes of n bits on which the reaction gives the value
abbrev pub value_count : Interpretation → Reaction → List Value → Valuation → ℕ → Value → ℕ
value_count J r env inputs n v = tape_count n (λ tape. same_value (outcome_value (reaction_outcome J r env inputs tape)) (Some v))

-- the first of two weights where there is no value, and the second of a value
abbrev pub weight_by : ℕ → (Value → ℕ) → Weight
weight_by stuck by None = stuck
weight_by stuck by (Some v) = by v

-- What a value weighs that a second reaction goes on from: the total of the second. Where the first is stuck, so is the
-- whole, on each tape of the second.
abbrev pub weight_then : Interpretation → Reaction → List Value → Valuation → ℕ → Weight → Weight
weight_then J s env inputs n weight = weight_by (2 ^ n * weight None) (λ v. reaction_total J s (v ∷ env) inputs n weight)

-- the value of an outcome has the width, unless it is stuck
abbrev pub OutcomeFits : ℕ → Outcome → Type 0
OutcomeFits w None = Unit {0}
OutcomeFits w (Some o) = length o.0 ≡ w

-- the sum over all values of at most so many bits
abbrev pub total_to : ℕ → (Value → ℕ) → ℕ
total_to zero f = total zero f
total_to (suc width) f = total_to width f + total (suc width) f
