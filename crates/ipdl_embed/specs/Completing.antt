-- The renaming of an interface by pairs, and why there is none.
use Rattle.std.specs.List.{filter, IsDistinct}
use Rattle.std.specs.Map.{keys_of, values_of}
use Rattle.std.specs.Prelude.{◌≡◌, not, List, [], ◌∷◌, ◌++◌, slice_get, Some}
use Rattle.ipdl_term.specs.Channels.{same_channel, has}
use Rattle.ipdl_term.specs.Renaming.{renaming_of}
use Rattle.ipdl_term.specs.Terms.{Channel}
use Rattle.ipdl_term.specs.Typing.{port_names}
use Rattle.ipdl_term.specs.declared.interface.Interface.{Interface}
use Rattle.ipdl_embed.specs.Pairs.{Pairs, named, old_name}
use Rattle.ipdl_embed.specs.declared.fault.EmbedFault.{EmbedFault}
use Rattle.ipdl_embed.specs.declared.fault.EmbedFault.TheVariants.{NoChannel, NotInjective, Capture, Memory}

-- the channels of an interface, the inputs before the outputs
abbrev pub channels_of : Interface → List Channel
channels_of i = port_names (i.inputs ++ i.outputs)

-- a pair for each channel of the interface: one that no pair names keeps its name
abbrev pub completed : Interface → Pairs → Pairs
completed i pairs = named (renaming_of pairs) (channels_of i)

-- the first names of pairs that are no channel of the interface, as written
abbrev pub unknown_channels : Interface → Pairs → List Channel
unknown_channels i pairs = filter (λ c. not (has (channels_of i) c)) (keys_of pairs)

-- The second channel is the earliest that gets the new name of one before it, and that one is the first channel.
pub record IsFirstClash (pairs : Pairs) (first second : Channel) : Type 0 where
  pub before : Pairs
  pub after : Pairs
  pub target : Channel
  pub second_pair : pairs ≡ before ++ (second, target) ∷ after
  pub first_pair : old_name before target ≡ Some first
  pub distinct : IsDistinct same_channel (values_of before)

-- the fault, want of memory apart, is that of the first unknown channel
abbrev pub TellsUnknown : Interface → Pairs → EmbedFault → Type 0
TellsUnknown i pairs (NoChannel c) = slice_get (unknown_channels i pairs) 0 ≡ Some c
TellsUnknown i pairs (NotInjective c d) = ⊥
TellsUnknown i pairs (Capture c) = ⊥
TellsUnknown i pairs Memory = Unit {0}

-- the fault, want of memory apart, is that of the first clash
abbrev pub TellsClash : Pairs → EmbedFault → Type 0
TellsClash pairs (NoChannel c) = ⊥
TellsClash pairs (NotInjective c d) = IsFirstClash pairs c d
TellsClash pairs (Capture c) = ⊥
TellsClash pairs Memory = Unit {0}

-- why there is no renaming, want of memory apart: the first unknown channel, and where there is none the first clash
abbrev pub TellsNoRenaming : Interface → Pairs → EmbedFault → Type 0
TellsNoRenaming i pairs (NoChannel c) = TellsUnknown i pairs (NoChannel c)
TellsNoRenaming i pairs (NotInjective c d) = (unknown_channels i pairs ≡ []) × IsFirstClash (completed i pairs) c d
TellsNoRenaming i pairs (Capture c) = ⊥
TellsNoRenaming i pairs Memory = Unit {0}
