use Rattle.ipdl_rules_p.proofs.CommunicationMeanings.{subst_is_equal}
use Rattle.ipdl_rules_p.proofs.communication.subst_is_equal.Goals as goal

pub returns : goal.returns
returns c = subst_is_equal
