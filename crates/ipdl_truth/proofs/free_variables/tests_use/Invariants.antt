use Rattle.std.proofs.Common.{◌≡◌, map, drop}
use Rattle.ipdl_term.specs.Surroundings.{condition_of}
use Rattle.ipdl_truth.specs.FreeVariables.{occurs}
use Rattle.ipdl_truth.specs.Questions.{tests_of}
use Rattle.ipdl_truth.proofs.free_variables.tests_use.Given as goal

-- it does not occur so far
abbrev pub invariant-loop-condition : goal.invariant-loop-condition
invariant-loop-condition l =
    occurs (tests_of (map condition_of (drop l.condition-index l.conditions))) l.number ≡ occurs (tests_of (map condition_of l.conditions)) l.number
