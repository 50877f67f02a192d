use Rattle.ipdl_laws.proofs.Substitution.{outcome_of_put}
use Rattle.ipdl_laws.proofs.terms.outcome_of_put.Goals as goal

pub returns : goal.returns
returns c = outcome_of_put
