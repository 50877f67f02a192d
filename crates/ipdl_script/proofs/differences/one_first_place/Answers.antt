use Rattle.ipdl_script.proofs.DifferenceLaws.{one_first}
use Rattle.ipdl_script.proofs.differences.one_first_place.Goals as goal

pub returns : goal.returns
returns c = one_first
