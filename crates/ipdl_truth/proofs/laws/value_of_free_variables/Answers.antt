use Rattle.ipdl_truth.proofs.Variables.{evaluation_by_variables}
use Rattle.ipdl_truth.proofs.laws.value_of_free_variables.Goals as goal

pub returns : goal.returns
returns c = evaluation_by_variables
