use Rattle.std.proofs.Common.{◌≡◌}
use Rattle.std.specs.Prelude.{drop}
use Rattle.ipdl_norm.specs.Gathered.{hidden_of}
use Rattle.ipdl_norm.specs.Repeated.{first_repeated}
use Rattle.ipdl_norm.specs.Shaped.{names_of}
use Rattle.ipdl_norm.proofs.shaping.refuse_repeat.Given as goal

-- the first that repeats is among the rest
abbrev pub invariant-loop-channel : goal.invariant-loop-channel
invariant-loop-channel l =
    first_repeated l.seen (names_of (hidden_of (drop l.channel-index l.hidden))) ≡ first_repeated l.fn.seen (names_of (hidden_of l.hidden))
