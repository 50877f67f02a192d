use Rattle.std.proofs.Common.{◌≡◌, ◌≤◌, ◌-◌, length}
use Rattle.ipdl_top.specs.Transfers.{source_limit, Gave}
use Rattle.ipdl_top.proofs.transfer.read_all.Given as goal

-- the bytes so far are what the source gave, within the limit and with no fault
abbrev pub invariant-loop-bytes : goal.invariant-loop-bytes
invariant-loop-bytes g l =
    (length l.bytes.items ≤ source_limit) × Gave (g.S.Source.left l.initial.source) (g.S.Source.left l.source) l.bytes.items × (g.S.Source.faults l.source ≡ g.S.Source.faults l.initial.source)

abbrev pub decreases-loop-bytes : goal.decreases-loop-bytes
decreases-loop-bytes g l = source_limit - length l.bytes.items
