use Rattle.ipdl_script.proofs.Fits.{argument_has_room, term_has_room}
use Rattle.ipdl_script.proofs.fitting.small_step_fits.Goals as goal

pub returns-clause-forward : goal.returns-clause-forward
returns-clause-forward c = λ symbols place rule arguments. argument_has_room symbols rule arguments

pub returns-clause-backward : goal.returns-clause-backward
returns-clause-backward c = λ symbols place rule term arguments small within. term_has_room symbols rule term arguments small within
