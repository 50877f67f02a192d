use Rattle.ipdl_laws.proofs.ClosedReactions.{typed_is_closed}
use Rattle.ipdl_laws.proofs.assignments.typed_is_closed.Goals as goal

pub returns : goal.returns
returns c = typed_is_closed
