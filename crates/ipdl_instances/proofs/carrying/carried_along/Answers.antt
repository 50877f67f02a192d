use Rattle.ipdl_instances.proofs.Carried.{carried_along}
use Rattle.ipdl_instances.proofs.carrying.carried_along.Goals as goal

pub returns : goal.returns
returns c = carried_along
