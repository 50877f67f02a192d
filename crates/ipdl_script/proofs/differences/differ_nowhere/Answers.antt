use Rattle.ipdl_script.proofs.DifferenceLaws.{differs_nowhere_exactly}
use Rattle.ipdl_script.proofs.differences.differ_nowhere.Goals as goal

pub returns : goal.returns
returns c = differs_nowhere_exactly
