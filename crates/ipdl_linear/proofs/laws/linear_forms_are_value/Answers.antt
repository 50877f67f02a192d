use Rattle.ipdl_linear.proofs.FormValues.{linear_forms-value}
use Rattle.ipdl_linear.proofs.laws.linear_forms_are_value.Goals as goal

pub returns : goal.returns
returns c = linear_forms-value
