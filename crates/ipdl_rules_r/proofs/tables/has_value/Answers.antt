use Rattle.std.proofs.Common.{◌∙◌}
use Rattle.ipdl_rules_r.proofs.Found.{has_value-any}
use Rattle.ipdl_rules_r.proofs.tables.has_value.Goals as goal

pub returns : goal.returns
returns c = c.contains.ensures.value ∙ has_value-any c.args.values.now c.args.value.now
