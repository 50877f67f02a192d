use Rattle.ipdl_rules_r.proofs.SameOutcomes.{beta_is_the_same}
use Rattle.ipdl_rules_r.proofs.rules.beta_is_the_same.Goals as goal

pub returns : goal.returns
returns c = beta_is_the_same
