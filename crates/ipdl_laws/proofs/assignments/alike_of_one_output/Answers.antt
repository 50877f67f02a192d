use Rattle.ipdl_laws.proofs.HiddenAssignments.{alike_of_one_output}
use Rattle.ipdl_laws.proofs.assignments.alike_of_one_output.Goals as goal

pub returns : goal.returns
returns c = alike_of_one_output
