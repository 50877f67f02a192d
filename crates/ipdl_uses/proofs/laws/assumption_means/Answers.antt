use Rattle.ipdl_uses.proofs.Assumptions.{assumption_means}
use Rattle.ipdl_uses.proofs.laws.assumption_means.Goals as goal

pub returns : goal.returns
returns c = assumption_means
