use Rattle.ipdl_laws.proofs.Numbering.{variables_exchanged}
use Rattle.ipdl_rules_r.proofs.variables.variables_exchanged.Goals as goal

pub returns : goal.returns
returns c = variables_exchanged
