use Rattle.ipdl_laws.proofs.ClosingContexts.{closed_by_zeros}
use Rattle.ipdl_laws.proofs.nontrivial.interface_is_closed_by_zeros.Goals as goal

pub returns : goal.returns
returns c = closed_by_zeros
