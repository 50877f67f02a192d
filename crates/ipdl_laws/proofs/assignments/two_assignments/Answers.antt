use Rattle.ipdl_laws.proofs.TwoAssignments.{two_assignments}
use Rattle.ipdl_laws.proofs.assignments.two_assignments.Goals as goal

pub returns : goal.returns
returns c = two_assignments
