use Rattle.ipdl_laws.proofs.Numbering.{variables_lowered}
use Rattle.ipdl_rules_r.proofs.variables.variables_lowered.Goals as goal

pub returns : goal.returns
returns c = variables_lowered
