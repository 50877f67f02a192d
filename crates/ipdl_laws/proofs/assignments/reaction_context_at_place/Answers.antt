use Rattle.ipdl_laws.proofs.FilledReactions.{reaction_context_at_place}
use Rattle.ipdl_laws.proofs.assignments.reaction_context_at_place.Goals as goal

pub returns : goal.returns
returns c = reaction_context_at_place
