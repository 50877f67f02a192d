use Rattle.ipdl_laws.proofs.ClosedReactions.{reaction_outcome-closed}
use Rattle.ipdl_laws.proofs.assignments.outcome_of_closed.Goals as goal

pub returns : goal.returns
returns c = reaction_outcome-closed
