use Rattle.std.proofs.Common.{◌≡◌, ◌++◌, map, drop}
use Rattle.ipdl_cursor.specs.Boundaries.{boundary_of, channel_ports}
use Rattle.ipdl_cursor.proofs.focusing.push_hidden.Given as goal

abbrev pub invariant-loop-boundary : goal.invariant-loop-boundary
invariant-loop-boundary l =
    l.scope ++ channel_ports (map boundary_of (drop l.boundary-index l.boundaries)) ≡ l.initial.scope ++ channel_ports (map boundary_of l.boundaries)
