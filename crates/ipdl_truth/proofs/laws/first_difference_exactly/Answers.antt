use Rattle.ipdl_truth.proofs.FirstDifferences.{first_difference_exactly}
use Rattle.ipdl_truth.proofs.laws.first_difference_exactly.Goals as goal

pub returns : goal.returns
returns c = first_difference_exactly
