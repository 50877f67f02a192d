use Rattle.std.proofs.Common.{◌≡◌, length}
use Rattle.ipdl_norm.specs.Gathered.{hidden_of}
use Rattle.ipdl_norm.specs.Shaped.{all_hidden}
use Rattle.ipdl_term.specs.Views.{protocol_of}
use Rattle.ipdl_norm.proofs.shaping.under_all.Given as goal

-- what is left is hidden around what is made
abbrev pub invariant-loop-channel : goal.invariant-loop-channel
invariant-loop-channel l =
    all_hidden (hidden_of l.items.items) (protocol_of l.made) ≡ all_hidden (hidden_of l.fn.items.items) (protocol_of l.fn.proto)

abbrev pub decreases-loop-channel : goal.decreases-loop-channel
decreases-loop-channel l = length l.items.items
