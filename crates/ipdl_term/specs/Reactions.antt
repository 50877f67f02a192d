-- What a reaction does on a tape, and how many of its bits it may take.
use Rattle.std.specs.Prelude.{ℕ, zero, suc, ◌+◌, max, Bool, List, [], ◌∷◌, Option, Some, None}
use Rattle.ipdl_term.specs.Terms.{Value, Reaction, returning, flipping, reading, branching, binding}
use Rattle.ipdl_term.specs.Interpretations.{Interpretation, evaluation, chosen}
use Rattle.ipdl_term.specs.Valuations.{Valuation}

-- a value and the rest of the tape, or stuck
abbrev pub Outcome : Type 0
Outcome = Option (Value × List Bool)

abbrev pub with_bit : Bool → Outcome → Outcome
with_bit b None = None
with_bit b (Some o) = Some (b ∷ o.0, o.1)

-- the first bits of the tape and the rest, stuck where it has fewer
abbrev pub first_bits : ℕ → List Bool → Outcome
first_bits zero tape = Some ([], tape)
first_bits (suc w) [] = None
first_bits (suc w) (b ∷ tape) = with_bit b (first_bits w tape)

-- a value and the whole tape, stuck where there is no value
abbrev pub with_tape : Option Value → List Bool → Outcome
with_tape None tape = None
with_tape (Some v) tape = Some (v, tape)

-- the value alone, none where the reaction is stuck
abbrev pub outcome_value : Outcome → Option Value
outcome_value None = None
outcome_value (Some o) = Some o.0

-- goes on with the value, on the rest of the tape, unless it is stuck
abbrev pub continued : Outcome → (Value → List Bool → Outcome) → Outcome
continued None next = None
continued (Some o) next = next o.0 o.1

-- what a reaction does, given the variables' values, that of variable 0 first, and the channels written around it
abbrev pub reaction_outcome : Interpretation → Reaction → List Value → Valuation → List Bool → Outcome
reaction_outcome J (returning e) env inputs tape = Some (evaluation J env e, tape)
reaction_outcome J (flipping w) env inputs tape = first_bits w tape
reaction_outcome J (reading c) env inputs tape = with_tape (inputs c) tape
reaction_outcome J (branching e r s) env inputs tape =
    chosen (evaluation J env e) (reaction_outcome J r env inputs tape) (reaction_outcome J s env inputs tape) (reaction_outcome J s env inputs tape)
reaction_outcome J (binding w r s) env inputs tape =
    continued (reaction_outcome J r env inputs tape) (λ v rest. reaction_outcome J s (v ∷ env) inputs rest)

-- the most bits of the tape that a reaction takes
abbrev pub reaction_coins : Reaction → ℕ
reaction_coins (returning e) = 0
reaction_coins (flipping w) = w
reaction_coins (reading c) = 0
reaction_coins (branching e r s) = max (reaction_coins r) (reaction_coins s)
reaction_coins (binding w r s) = reaction_coins r + reaction_coins s
