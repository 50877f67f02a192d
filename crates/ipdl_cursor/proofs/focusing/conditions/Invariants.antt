use Rattle.std.proofs.Common.{◌≡◌, ◌≤◌, ◌++◌, map, drop, length}
use Rattle.ipdl_term.specs.Surroundings.{condition_of}
use Rattle.ipdl_cursor.specs.Boundaries.{boundary_of, binder_widths, arm_conditions, greatest_in_arms}
use Rattle.ipdl_cursor.proofs.focusing.conditions.Given as goal

abbrev pub invariant-loop-boundary : goal.invariant-loop-boundary
invariant-loop-boundary l = record {
  by : l.by ≡ length (binder_widths (map boundary_of (drop l.boundary-index l.boundaries)));
  fewer : l.by ≤ l.fn.binders;
  smaller : greatest_in_arms (map boundary_of (drop l.boundary-index l.boundaries)) ≤ greatest_in_arms (map boundary_of l.boundaries);
  told : map condition_of l.conditions.items ++ arm_conditions (map boundary_of (drop l.boundary-index l.boundaries)) ≡ arm_conditions (map boundary_of l.boundaries);
}
