use Rattle.ipdl_script.proofs.DifferenceLaws.{differs_first_exactly}
use Rattle.ipdl_script.proofs.differences.differ_first.Goals as goal

pub returns : goal.returns
returns c = differs_first_exactly
