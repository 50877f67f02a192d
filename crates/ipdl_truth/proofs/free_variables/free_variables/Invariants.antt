use Rattle.std.proofs.Common.{◌≡◌, ◌+◌, ◌++◌, drop, length}
use Rattle.ipdl_truth.specs.FreeVariables.{free_of}
use Rattle.ipdl_truth.specs.Questions.{expressions_in, free_variables}
use Rattle.ipdl_truth.specs.Views.{asked_of}
use Rattle.ipdl_truth.proofs.free_variables.free_variables.Given as goal

-- with those that are left they are all
abbrev pub invariant-loop-width : goal.invariant-loop-width
invariant-loop-width l = record {
  inside : l.inside + l.width-index ≡ length l.question.widths.now;
  depth : l.depth ≡ l.width-index;
  all : l.free.items ++ free_of (expressions_in (asked_of l.question)) l.width-index (drop l.width-index l.question.widths.now) ≡ free_variables (asked_of l.question);
}
