-- When two reactions do the same: on every tape, or as often over all tapes.
use Rattle.std.specs.Prelude.{◌≡◌, ℕ, ◌≤◌, Bool, List}
use Rattle.ipdl_laws.specs.ReactionTotals.{Weight, reaction_total}
use Rattle.ipdl_term.specs.Interpretations.{Interpretation}
use Rattle.ipdl_term.specs.Reactions.{reaction_outcome, reaction_coins}
use Rattle.ipdl_term.specs.Terms.{Value, Reaction}
use Rattle.ipdl_term.specs.Valuations.{Valuation}

-- the same on every tape
abbrev pub DoTheSame : Interpretation → List Value → Valuation → Reaction → Reaction → Type 0
DoTheSame J env inputs r s = (tape : List Bool) → reaction_outcome J r env inputs tape ≡ reaction_outcome J s env inputs tape

-- each weight has one total over the tapes that are long enough for both: so each value, and being stuck, is as likely
abbrev pub HaveSameTotals : Interpretation → List Value → Valuation → Reaction → Reaction → Type 0
HaveSameTotals J env inputs r s =
    (weight : Weight) (n : ℕ) → reaction_coins r ≤ n → reaction_coins s ≤ n →
    reaction_total J r env inputs n weight ≡ reaction_total J s env inputs n weight
