use Rattle.ipdl_laws.proofs.Substitution.{reaction_outcome-lifted}
use Rattle.ipdl_laws.proofs.terms.outcome_of_lift.Goals as goal

pub returns : goal.returns
returns c = reaction_outcome-lifted
