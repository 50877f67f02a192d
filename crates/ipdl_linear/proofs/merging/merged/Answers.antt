use Rattle.std.proofs.Common.{◌⊎◌, inl, inr, ◌≤◌, length, arith}
use Rattle.ipdl_linear.proofs.Numbers.{merged-ended}
use Rattle.ipdl_linear.proofs.merging.merged.Goals.{then-loop-i-test+else-j-b, else-loop-i-test}
use Rattle.ipdl_linear.proofs.merging.merged.Goals as goal

pub returns : goal.returns
returns c =
    let end : (length c.args.a.now ≤ c.loop-i.i) ⊎ (length c.args.b.now ≤ c.loop-i.j) = elim c.loop-i-test.branch [ then-loop-i-test+else-j-b w ↦ inr (omega arith) | else-loop-i-test w ↦ inl (omega arith) ] in
    merged-ended c.args.a.now c.args.b.now c.loop-i.numbers.items c.extend_from_slice.new.self.items c.extend_from_slice-2.new.self.items c.loop-i.i c.loop-i.j end
    c.in_ok-extend_from_slice.ensures.items c.in_ok-extend_from_slice-2.ensures.items c.loop-i.invariant.2
