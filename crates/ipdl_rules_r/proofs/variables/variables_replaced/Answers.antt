use Rattle.ipdl_laws.proofs.Numbering.{variables_replaced}
use Rattle.ipdl_rules_r.proofs.variables.variables_replaced.Goals as goal

pub returns : goal.returns
returns c = variables_replaced
