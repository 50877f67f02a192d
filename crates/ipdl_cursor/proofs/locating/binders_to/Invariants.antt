use Rattle.std.proofs.Common.{◌≡◌, ◌+◌, ◌≤◌, drop, length}
use Rattle.ipdl_cursor.specs.Boundaries.{binder_widths, boundaries_to}
use Rattle.ipdl_cursor.specs.Views.{part_of}
use Rattle.ipdl_cursor.proofs.locating.binders_to.Given as goal

-- with those that are left they are all, and each number enters one at most
abbrev pub invariant-loop-number : goal.invariant-loop-number
invariant-loop-number l = record {
  all : l.binders + length (binder_widths (boundaries_to (part_of l.part) (drop l.number-index l.place))) ≡ length (binder_widths (boundaries_to (part_of l.fn.whole) l.place));
  few : l.binders ≤ l.number-index;
}
