use Rattle.ipdl_rules_r.proofs.SameOutcomes.{ifsame_is_the_same}
use Rattle.ipdl_rules_r.proofs.rules.ifsame_is_the_same.Goals as goal

pub returns : goal.returns
returns c = ifsame_is_the_same
