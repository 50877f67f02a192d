use Rattle.ipdl_rules_p.proofs.CommunicationMeanings.{drop_is_equal}
use Rattle.ipdl_rules_p.proofs.communication.drop_is_equal.Goals as goal

pub returns : goal.returns
returns c = drop_is_equal
