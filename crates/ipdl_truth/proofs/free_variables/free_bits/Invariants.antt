use Rattle.std.proofs.Common.{◌≡◌, ◌+◌, ◌*◌, ◌≤◌, drop, length}
use Rattle.ipdl_truth.specs.FreeVariables.{free_of, total_width}
use Rattle.ipdl_truth.specs.Questions.{expressions_in, free_bits}
use Rattle.ipdl_truth.specs.Views.{asked_of}
use Rattle.ipdl_truth.proofs.free_variables.free_bits.Given as goal

-- with those that are left it is the whole sum
abbrev pub invariant-loop-width : goal.invariant-loop-width
invariant-loop-width l = record {
  inside : l.inside + l.width-index ≡ length l.question.widths.now;
  few : l.bits ≤ 255 * l.width-index;
  sum : l.bits + total_width (free_of (expressions_in (asked_of l.question)) l.width-index (drop l.width-index l.question.widths.now)) ≡ free_bits (asked_of l.question);
}
