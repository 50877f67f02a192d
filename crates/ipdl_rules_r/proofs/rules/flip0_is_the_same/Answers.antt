use Rattle.ipdl_rules_r.proofs.SameOutcomes.{flip0_is_the_same}
use Rattle.ipdl_rules_r.proofs.rules.flip0_is_the_same.Goals as goal

pub returns : goal.returns
returns c = flip0_is_the_same
