use Rattle.ipdl_rules_r.proofs.SameOutcomes.{iffalse_is_the_same}
use Rattle.ipdl_rules_r.proofs.rules.iffalse_is_the_same.Goals as goal

pub returns : goal.returns
returns c = iffalse_is_the_same
