use Rattle.ipdl_laws.proofs.FixedInputLaws.{same_for_fixed_inputs}
use Rattle.ipdl_laws.proofs.nontrivial.fixed_inputs_agree.Goals as goal

pub returns : goal.returns
returns c = same_for_fixed_inputs
