use Rattle.ipdl_uses.proofs.UsedMeans.{used_means}
use Rattle.ipdl_uses.proofs.laws.used_means.Goals as goal

pub returns : goal.returns
returns c = used_means
