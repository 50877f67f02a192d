use Rattle.ipdl_laws.proofs.Structure.{alike_unit}
use Rattle.ipdl_rules_p.proofs.rules.unit_is_alike.Goals as goal

pub returns : goal.returns
returns c = alike_unit
