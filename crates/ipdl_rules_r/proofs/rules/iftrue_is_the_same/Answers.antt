use Rattle.ipdl_rules_r.proofs.SameOutcomes.{iftrue_is_the_same}
use Rattle.ipdl_rules_r.proofs.rules.iftrue_is_the_same.Goals as goal

pub returns : goal.returns
returns c = iftrue_is_the_same
