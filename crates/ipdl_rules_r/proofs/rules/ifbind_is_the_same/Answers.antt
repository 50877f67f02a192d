use Rattle.ipdl_rules_r.proofs.SameOutcomes.{ifbind_is_the_same}
use Rattle.ipdl_rules_r.proofs.rules.ifbind_is_the_same.Goals as goal

pub returns : goal.returns
returns c = ifbind_is_the_same
