use Rattle.ipdl_script.proofs.MarkLaws.{step_is_marked}
use Rattle.ipdl_script.proofs.steps.step_is_marked.Goals as goal

pub returns : goal.returns
returns c = step_is_marked
