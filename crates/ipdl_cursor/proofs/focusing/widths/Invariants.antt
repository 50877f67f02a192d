use Rattle.std.proofs.Common.{◌≡◌, ◌++◌, map, drop}
use Rattle.ipdl_cursor.specs.Boundaries.{boundary_of, binder_widths}
use Rattle.ipdl_cursor.proofs.focusing.widths.Given as goal

abbrev pub invariant-loop-boundary : goal.invariant-loop-boundary
invariant-loop-boundary l =
    l.widths ++ binder_widths (map boundary_of (drop l.boundary-index l.boundaries)) ≡ binder_widths (map boundary_of l.boundaries)
