use Rattle.ipdl_laws.proofs.ClosingContexts.{feeding_closes}
use Rattle.ipdl_laws.proofs.nontrivial.finite_scope_is_closed.Goals as goal

pub returns : goal.returns
returns c = feeding_closes
