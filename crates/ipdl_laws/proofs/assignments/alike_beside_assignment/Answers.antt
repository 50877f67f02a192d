use Rattle.ipdl_laws.proofs.TwoAssignments.{alike_beside_assignment}
use Rattle.ipdl_laws.proofs.assignments.alike_beside_assignment.Goals as goal

pub returns : goal.returns
returns c = alike_beside_assignment
