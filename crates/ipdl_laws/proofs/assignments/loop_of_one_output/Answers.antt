use Rattle.ipdl_laws.proofs.HiddenAssignments.{loop_of_one_output}
use Rattle.ipdl_laws.proofs.assignments.loop_of_one_output.Goals as goal

pub returns : goal.returns
returns c = loop_of_one_output
