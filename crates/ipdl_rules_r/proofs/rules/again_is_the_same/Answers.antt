use Rattle.ipdl_rules_r.proofs.SameOutcomes.{again_is_the_same}
use Rattle.ipdl_rules_r.proofs.rules.again_is_the_same.Goals as goal

pub returns : goal.returns
returns c = again_is_the_same
