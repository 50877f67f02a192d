use Rattle.ipdl_rules_p.proofs.RuleLaws.{assocl_is_equal}
use Rattle.ipdl_rules_p.proofs.rules.assocl_is_equal.Goals as goal

pub returns : goal.returns
returns c = assocl_is_equal
