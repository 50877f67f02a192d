use Rattle.ipdl_laws.proofs.ClosingContexts.{closed_by_silence}
use Rattle.ipdl_laws.proofs.nontrivial.interface_is_closed_by_silence.Goals as goal

pub returns : goal.returns
returns c = closed_by_silence
