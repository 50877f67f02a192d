use Rattle.ipdl_laws.proofs.Refuting.{told_apart_by_counts}
use Rattle.ipdl_laws.proofs.told_apart.told_apart_by_counts.Goals as goal

pub returns : goal.returns
returns c = told_apart_by_counts
