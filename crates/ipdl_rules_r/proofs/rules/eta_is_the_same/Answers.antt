use Rattle.ipdl_rules_r.proofs.SameOutcomes.{eta_is_the_same}
use Rattle.ipdl_rules_r.proofs.rules.eta_is_the_same.Goals as goal

pub returns : goal.returns
returns c = eta_is_the_same
