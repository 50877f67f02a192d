-- What an assignment gives, and valuations with one value more.
use Rattle.std.specs.Prelude.{Bool, List, [], Option, if◌then◌else◌}
use Rattle.ipdl_term.specs.Channels.{same_channel}
use Rattle.ipdl_term.specs.Interpretations.{Interpretation}
use Rattle.ipdl_term.specs.Reactions.{outcome_value, reaction_outcome}
use Rattle.ipdl_term.specs.Terms.{Value, Channel, Reaction}
use Rattle.ipdl_term.specs.Valuations.{Valuation}

-- the valuation with this value, or none, at the channel
abbrev pub with_value : Channel → Option Value → Valuation → Valuation
with_value c o p = λ d. if same_channel c d then o else p d

-- the value that the reaction of an assignment gives, none where it is stuck
abbrev pub given_value : Interpretation → Reaction → List Bool → Valuation → Option Value
given_value J r tape inputs = outcome_value (reaction_outcome J r [] inputs tape)
