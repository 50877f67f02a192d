use Rattle.ipdl_laws.proofs.ClosingContexts.{signature_has_interpretation}
use Rattle.ipdl_laws.proofs.nontrivial.signature_has_interpretation.Goals as goal

pub returns : goal.returns
returns c = signature_has_interpretation
