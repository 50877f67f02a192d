use Rattle.ipdl_script.proofs.StepLaws.{step_exactly}
use Rattle.ipdl_script.proofs.steps.step_exactly.Goals as goal

pub returns : goal.returns
returns c = step_exactly
