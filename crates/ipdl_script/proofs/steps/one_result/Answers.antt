use Rattle.ipdl_script.proofs.StepLaws.{one_result}
use Rattle.ipdl_script.proofs.steps.one_result.Goals as goal

pub returns : goal.returns
returns c = one_result
