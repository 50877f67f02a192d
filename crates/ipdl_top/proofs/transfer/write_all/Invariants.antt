use Rattle.std.proofs.Common.{◌≡◌, ◌≤◌, ◌-◌, length, take}
use Rattle.ipdl_top.specs.Transfers.{Took}
use Rattle.ipdl_top.proofs.transfer.write_all.Given as goal

-- the sink took what is done, and did not fail
abbrev pub invariant-loop-done : goal.invariant-loop-done
invariant-loop-done g l =
    (l.done ≤ length l.text) × Took (g.K.Sink.taken l.initial.sink) (g.K.Sink.taken l.sink) (take l.done l.text) × (g.K.Sink.faults l.sink ≡ g.K.Sink.faults l.initial.sink)

abbrev pub decreases-loop-done : goal.decreases-loop-done
decreases-loop-done g l = length l.text - l.done
