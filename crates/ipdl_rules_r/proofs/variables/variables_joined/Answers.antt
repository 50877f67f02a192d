use Rattle.ipdl_laws.proofs.Numbering.{variables_joined}
use Rattle.ipdl_rules_r.proofs.variables.variables_joined.Goals as goal

pub returns : goal.returns
returns c = variables_joined
