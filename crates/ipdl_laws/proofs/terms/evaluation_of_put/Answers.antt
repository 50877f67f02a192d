use Rattle.ipdl_laws.proofs.Substitution.{evaluation_of_put}
use Rattle.ipdl_laws.proofs.terms.evaluation_of_put.Goals as goal

pub returns : goal.returns
returns c = evaluation_of_put
