use Rattle.ipdl_laws.proofs.FixedInputLaws.{in_turn_typed}
use Rattle.ipdl_laws.proofs.nontrivial.fixed_inputs_are_typed.Goals as goal

pub returns : goal.returns
returns c = in_turn_typed
