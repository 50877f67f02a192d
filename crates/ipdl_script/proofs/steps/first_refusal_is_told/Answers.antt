use Rattle.ipdl_script.specs.Steps.{step_tests}
use Rattle.ipdl_script.proofs.StepTests.{told_first}
use Rattle.ipdl_script.proofs.steps.first_refusal_is_told.Goals as goal

pub returns : goal.returns
returns c = λ x before step. told_first (step_tests x before step)
