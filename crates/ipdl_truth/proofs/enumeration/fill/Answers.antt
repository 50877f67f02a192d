use Rattle.std.proofs.Common.{ap, arith, drop-cons}
use Rattle.ipdl_truth.specs.FreeVariables.{total_width}
use Rattle.ipdl_truth.proofs.enumeration.fill.Goals as goal

pub value_at-requires : goal.value_at-requires
value_at-requires c =
    let step = ap total_width (drop-cons c.args.free.now c.loop-depth.depth-index (0, 0) c.loop-depth-test.true) in
    omega (arith, step, c.from-rest.ensures, c.loop-depth.invariant.rest, c.loop-depth.invariant.few)
