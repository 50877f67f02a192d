-- Whether a channel is free in a term, form by form.
use Rattle.std.proofs.Common.{◌≡◌, true, false, ◌||◌, List, [], ◌∷◌, ap, ◌∙◌}
use Rattle.ipdl_laws.proofs.Sets.{has-single, by_test, if-true, if-false}
use Rattle.ipdl_term.proofs.ChannelSets.{bytes_eq-same_channel, has-append, has-union, has-intersection, has-without}
use Rattle.ipdl_term.specs.Channels.{same_channel, has, without, reads, free_channels}
use Rattle.ipdl_term.specs.Terms.{Channel, Reaction, assignment}

-- what is written or read
pub has-free_channels_assignment : (c d : Channel) (r : Reaction) → has (free_channels (assignment c r)) d ≡ (same_channel c d || has (reads r) d)
has-free_channels_assignment c d r = has-union (c ∷ []) (reads r) d ∙ ap (λ b. b || has (reads r) d) (has-single c d)

-- what is hidden
pub has-without_itself : (c : Channel) (cs : List Channel) (d : Channel) → same_channel c d ≡ true → has (without c cs) d ≡ false
has-without_itself c cs d same = has-without c cs d ∙ if-true (same_channel c d) _ _ same

-- and what is not
pub has-without_other : (c : Channel) (cs : List Channel) (d : Channel) → same_channel c d ≡ false → has (without c cs) d ≡ has cs d
has-without_other c cs d other = has-without c cs d ∙ if-false (same_channel c d) _ _ other

pub ruleset hidden_in_forms = (has-append)

pub ruleset free_in_forms = (bytes_eq-same_channel, has-single, has-union, has-intersection, has-free_channels_assignment, has-without_itself, has-without_other)
