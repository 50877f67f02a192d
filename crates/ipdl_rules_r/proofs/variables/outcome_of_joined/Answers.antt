use Rattle.ipdl_laws.proofs.Rewritten.{outcome_of_joined}
use Rattle.ipdl_rules_r.proofs.variables.outcome_of_joined.Goals as goal

pub returns : goal.returns
returns c = outcome_of_joined
