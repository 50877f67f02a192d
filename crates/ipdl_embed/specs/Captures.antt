-- New names that a `new` of a term captures.
use Rattle.std.specs.List.{filter}
use Rattle.std.specs.Map.{values_of}
use Rattle.std.specs.Prelude.{◌≡◌, List, [], ◌∷◌, ◌++◌, slice_get, Option, Some}
use Rattle.ipdl_term.specs.Channels.{has, intersection}
use Rattle.ipdl_term.specs.Renaming.{hidden_channels}
use Rattle.ipdl_term.specs.Terms.{Channel, Context, hole, in_left, in_right, in_hiding}
use Rattle.ipdl_embed.specs.Pairs.{Pairs}
use Rattle.ipdl_embed.specs.declared.fault.EmbedFault.{EmbedFault}
use Rattle.ipdl_embed.specs.declared.fault.EmbedFault.TheVariants.{NoChannel, NotInjective, Capture, Memory}

-- the names of the hidden channels of a context, around the hole and in the parts beside it, in preorder
abbrev pub hidden_in_context : Context → List Channel
hidden_in_context hole = []
hidden_in_context (in_left C q) = hidden_in_context C ++ hidden_channels q
hidden_in_context (in_right q C) = hidden_channels q ++ hidden_in_context C
hidden_in_context (in_hiding c w C) = c ∷ hidden_in_context C

-- the hidden channels that have a new name of the pairs
abbrev pub captured : Pairs → List Channel → List Channel
captured pairs hidden = intersection hidden (values_of pairs)

-- the first new name, in the order of the pairs, that is among the hidden channels
abbrev pub first_captured_target : Pairs → (hidden : List Channel) → Option Channel
first_captured_target pairs hidden = slice_get (filter (has hidden) (values_of pairs)) 0

-- what the fault says of the pairs and the hidden channels, want of memory apart
abbrev pub TellsCapture : Pairs → List Channel → EmbedFault → Type 0
TellsCapture pairs hidden (NoChannel c) = ⊥
TellsCapture pairs hidden (NotInjective c d) = ⊥
TellsCapture pairs hidden (Capture c) = slice_get (captured pairs hidden) 0 ≡ Some c
TellsCapture pairs hidden Memory = Unit {0}
