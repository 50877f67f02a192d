-- Pairs of a channel and its new name.
use Rattle.std.specs.Prelude.{List, [], ◌∷◌, map, Option, Some, None, if◌then◌else◌}
use Rattle.ipdl_term.specs.Channels.{same_channel}
use Rattle.ipdl_term.specs.Renaming.{Renaming}
use Rattle.ipdl_term.specs.Terms.{Channel}

abbrev pub Pairs : Type 0
Pairs = List (Channel × Channel)

-- each channel with its new name
abbrev pub named : Renaming → List Channel → Pairs
named f cs = map (λ (c : Channel). (c, f c)) cs

-- the new name in the first pair of a channel
abbrev pub new_name : Pairs → Channel → Option Channel
new_name [] c = None
new_name (pair ∷ pairs) c = if same_channel pair.0 c then Some pair.1 else new_name pairs c

-- each pair the other way round
abbrev pub turned : Pairs → Pairs
turned pairs = map (λ (pair : Channel × Channel). (pair.1, pair.0)) pairs

-- the channel of the first pair with a new name
abbrev pub old_name : Pairs → Channel → Option Channel
old_name pairs d = new_name (turned pairs) d
