use Rattle.std.proofs.Common.{◌∙◌, ◌++◌, take, arith}
use Rattle.std.proofs.lemmas.List.{length-take}
use Rattle.ipdl_top.proofs.Transfers.{Gave-next}
use Rattle.ipdl_top.proofs.transfer.read_all.Goals as goal

pub returns-then-count-limit-clause-stopped : goal.returns-then-count-limit-clause-stopped
returns-then-count-limit-clause-stopped g c =
    let told = c.in-Bytes.ensures.gives in
    let more = Gave-next _ _ _ c.loop-bytes.bytes.items c.read.new.into c.in-Bytes.count c.loop-bytes.invariant.1 told.1 told.2 in (
      (c.loop-bytes.bytes.items ++ take c.in-Bytes.count c.read.new.into, omega (arith, more.1, told.1, c.len.ensures, c.read.auto.into, length-take c.min-room.result c.loop-bytes.buffer), more.0),
      told.3 ∙ c.loop-bytes.invariant.2,
    )

pub returns-then-is_err-clause-stopped : goal.returns-then-is_err-clause-stopped
returns-then-is_err-clause-stopped g c =
    let told = c.in-Bytes.ensures.gives in
    let more = Gave-next _ _ _ c.loop-bytes.bytes.items c.read.new.into c.in-Bytes.count c.loop-bytes.invariant.1 told.1 told.2 in (
      (c.loop-bytes.bytes.items ++ take c.in-Bytes.count c.read.new.into, omega (arith, more.1, told.1, c.len.ensures, c.read.auto.into, length-take c.min-room.result c.loop-bytes.buffer), more.0),
      told.3 ∙ c.loop-bytes.invariant.2,
    )
