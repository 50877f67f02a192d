use Rattle.ipdl_laws.proofs.FixedInputLaws.{in_turn_not_equal}
use Rattle.ipdl_laws.proofs.nontrivial.fixed_inputs_do_not_suffice.Goals as goal

pub returns : goal.returns
returns c = in_turn_not_equal
