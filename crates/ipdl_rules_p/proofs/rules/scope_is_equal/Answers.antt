use Rattle.ipdl_rules_p.proofs.RuleLaws.{scope_is_equal}
use Rattle.ipdl_rules_p.proofs.rules.scope_is_equal.Goals as goal

pub returns : goal.returns
returns c = scope_is_equal
