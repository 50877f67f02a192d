use Rattle.std.proofs.Common.{map, sym}
use Rattle.ipdl_cursor.specs.Boundaries.{boundary_of, boundaries_to}
use Rattle.ipdl_cursor.specs.Views.{part_of}
use Rattle.ipdl_cursor.proofs.Steps.{boundaries-pushed, boundaries-stopped}
use Rattle.ipdl_cursor.proofs.boundaries.boundaries_to.Goals as goal

pub loop-number-preserved : goal.loop-number-preserved
loop-number-preserved c =
    boundaries-pushed c.args.place.now c.loop-number.number-index (part_of c.loop-number.part) (part_of c.in-Some.next) c.loop-number-test.true (sym c.in-Some.ensures) (map boundary_of c.loop-number.boundaries.items) _ (boundaries_to (part_of c.args.whole) c.args.place.now) c.in_ok-push_boundary-in-Some.ensures c.loop-number.invariant

pub returns-in-None : goal.returns-in-None
returns-in-None c =
    boundaries-stopped c.args.place.now c.loop-number.number-index (part_of c.loop-number.part) c.loop-number-test.true (sym c.in-None.ensures) (map boundary_of c.loop-number.boundaries.items) (boundaries_to (part_of c.args.whole) c.args.place.now) c.loop-number.invariant
