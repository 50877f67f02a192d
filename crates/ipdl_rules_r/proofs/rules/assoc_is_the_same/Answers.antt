use Rattle.ipdl_rules_r.proofs.SameOutcomes.{assoc_is_the_same}
use Rattle.ipdl_rules_r.proofs.rules.assoc_is_the_same.Goals as goal

pub returns : goal.returns
returns c = assoc_is_the_same
