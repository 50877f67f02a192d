use Rattle.ipdl_laws.proofs.HiddenAssignments.{beside_hidden_assignment}
use Rattle.ipdl_laws.proofs.assignments.beside_hidden_assignment.Goals as goal

pub returns : goal.returns
returns c = beside_hidden_assignment
