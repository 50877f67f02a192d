use Rattle.ipdl_rules_p.proofs.Grouping.{alike_scope}
use Rattle.ipdl_rules_p.proofs.rules.scope_is_alike.Goals as goal

pub returns : goal.returns
returns c = alike_scope
