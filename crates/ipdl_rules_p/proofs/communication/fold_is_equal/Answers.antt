use Rattle.ipdl_rules_p.proofs.CommunicationMeanings.{fold_is_equal}
use Rattle.ipdl_rules_p.proofs.communication.fold_is_equal.Goals as goal

pub returns : goal.returns
returns c = fold_is_equal
