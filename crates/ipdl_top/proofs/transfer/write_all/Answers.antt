use Rattle.std.proofs.Common.{◌∙◌, arith}
use Rattle.std.proofs.lemmas.List.{length-drop, take_rest}
use Rattle.ipdl_top.proofs.Transfers.{Took-next}
use Rattle.ipdl_top.proofs.transfer.write_all.Goals as goal

pub loop-done-preserved : goal.loop-done-preserved
loop-done-preserved g c =
    let told = rw (take_rest c.args.text.now c.loop-done.done) at c.in-Took.ensures.takes in (
      omega (arith, told, length-drop c.loop-done.done c.args.text.now),
      Took-next _ _ _ _ _ _ c.loop-done.invariant.1 told.2,
      told.3 ∙ c.loop-done.invariant.2,
    )
