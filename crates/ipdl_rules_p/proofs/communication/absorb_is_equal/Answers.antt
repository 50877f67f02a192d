use Rattle.ipdl_rules_p.proofs.CommunicationMeanings.{absorb_is_equal}
use Rattle.ipdl_rules_p.proofs.communication.absorb_is_equal.Goals as goal

pub returns : goal.returns
returns c = absorb_is_equal
