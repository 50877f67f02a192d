use Rattle.ipdl_script.proofs.WrongLaws.{wrong_is_first}
use Rattle.ipdl_script.proofs.chains.wrong_is_first.Goals as goal

pub returns : goal.returns
returns c = wrong_is_first
