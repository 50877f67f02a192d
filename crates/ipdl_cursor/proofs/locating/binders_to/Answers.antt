use Rattle.std.proofs.Common.{sym, arith}
use Rattle.ipdl_cursor.specs.Views.{part_of}
use Rattle.ipdl_cursor.proofs.Steps.{binders-ahead, binders-stopped}
use Rattle.ipdl_cursor.proofs.locating.binders_to.Goals as goal

pub loop-number-preserved : goal.loop-number-preserved
loop-number-preserved c =
    let ahead = binders-ahead c.args.place.now c.loop-number.number-index (part_of c.loop-number.part) (part_of c.in-Some.next) c.loop-number-test.true (sym c.in-Some.ensures) in
    let entered = c.binders_at-binders.ensures in
    let so_far = c.loop-number.invariant in
    record { all = omega (arith, ahead, entered.value, so_far.all); few = omega (arith, entered.few, so_far.few) }

pub returns-in-None : goal.returns-in-None
returns-in-None c =
    let none = binders-stopped c.args.place.now c.loop-number.number-index (part_of c.loop-number.part) c.loop-number-test.true (sym c.in-None.ensures) in
    let so_far = c.loop-number.invariant in
    omega (arith, none, so_far.all)
