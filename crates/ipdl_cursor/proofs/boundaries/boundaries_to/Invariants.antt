use Rattle.std.proofs.Common.{◌≡◌, ◌++◌, map, drop}
use Rattle.ipdl_cursor.specs.Boundaries.{boundary_of, boundaries_to}
use Rattle.ipdl_cursor.specs.Views.{part_of}
use Rattle.ipdl_cursor.proofs.boundaries.boundaries_to.Given as goal

-- with those that are left they are all
abbrev pub invariant-loop-number : goal.invariant-loop-number
invariant-loop-number l =
    map boundary_of l.boundaries.items ++ boundaries_to (part_of l.part) (drop l.number-index l.place) ≡ boundaries_to (part_of l.fn.whole) l.place
