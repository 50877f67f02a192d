-- Names of hidden channels that stand for another channel too.
use Rattle.std.specs.Prelude.{◌≡◌, List, [], ◌∷◌, Option, Some, None, if◌then◌else◌}
use Rattle.ipdl_term.specs.Channels.{has, free_channels}
use Rattle.ipdl_term.specs.Renaming.{hidden_channels}
use Rattle.ipdl_term.specs.Terms.{Channel, Protocol}
use Rattle.ipdl_norm.specs.declared.fault.ShapeFault.{ShapeFault}
use Rattle.ipdl_norm.specs.declared.fault.ShapeFault.TheVariants.{NamesRepeat, Memory}

-- the first of the names that is in the set or stands earlier
abbrev pub first_repeated : List Channel → List Channel → Option Channel
first_repeated seen [] = None
first_repeated seen (c ∷ cs) = if has seen c then Some c else first_repeated (c ∷ seen) cs

-- the first name of a hidden channel, in preorder, that is free in the protocol or the name of an earlier one
abbrev pub first_repeated_name : Protocol → Option Channel
first_repeated_name p = first_repeated (free_channels p) (hidden_channels p)

-- what the fault says where this name is the first that repeats; memory may run out
abbrev pub TellsRepeat : Option Channel → ShapeFault → Type 0
TellsRepeat first (NamesRepeat c) = first ≡ Some c
TellsRepeat first Memory = Unit {0}
