use Rattle.ipdl_laws.proofs.FilledReactions.{reaction_outcome-filled}
use Rattle.ipdl_laws.proofs.assignments.outcome_of_filled.Goals as goal

pub returns : goal.returns
returns c = reaction_outcome-filled
