use Rattle.ipdl_rules_p.proofs.RuleLaws.{unit_is_equal}
use Rattle.ipdl_rules_p.proofs.rules.unit_is_equal.Goals as goal

pub returns : goal.returns
returns c = unit_is_equal
