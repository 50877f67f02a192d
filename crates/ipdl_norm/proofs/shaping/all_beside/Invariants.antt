use Rattle.std.proofs.Common.{◌≡◌, None, length}
use Rattle.std.specs.Prelude.{option_map}
use Rattle.ipdl_norm.specs.Gathered.{assignments_of, in_front}
use Rattle.ipdl_term.specs.Views.{protocol_of}
use Rattle.ipdl_norm.proofs.shaping.all_beside.Given as goal

-- what is left stands in front of what is made
abbrev pub invariant-loop-channel : goal.invariant-loop-channel
invariant-loop-channel l =
    in_front (assignments_of l.items.items) (option_map protocol_of l.made) ≡ in_front (assignments_of l.fn.items.items) None

abbrev pub decreases-loop-channel : goal.decreases-loop-channel
decreases-loop-channel l = length l.items.items
