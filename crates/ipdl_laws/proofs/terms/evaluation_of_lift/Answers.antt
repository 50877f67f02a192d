use Rattle.ipdl_laws.proofs.Substitution.{evaluation-lifted}
use Rattle.ipdl_laws.proofs.terms.evaluation_of_lift.Goals as goal

pub returns : goal.returns
returns c = evaluation-lifted
