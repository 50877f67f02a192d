use Rattle.ipdl_rules_p.proofs.CommunicationMeanings.{subsume_is_equal}
use Rattle.ipdl_rules_p.proofs.communication.subsume_is_equal.Goals as goal

pub returns : goal.returns
returns c = subsume_is_equal
