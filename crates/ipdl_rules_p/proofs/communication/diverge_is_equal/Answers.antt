use Rattle.ipdl_rules_p.proofs.CommunicationMeanings.{diverge_is_equal}
use Rattle.ipdl_rules_p.proofs.communication.diverge_is_equal.Goals as goal

pub returns : goal.returns
returns c = diverge_is_equal
