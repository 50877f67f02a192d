use Rattle.ipdl_rules_p.proofs.Grouping.{alike_assocl}
use Rattle.ipdl_rules_p.proofs.rules.assocl_is_alike.Goals as goal

pub returns : goal.returns
returns c = alike_assocl
