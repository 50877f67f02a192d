use Rattle.ipdl_instances.proofs.Instances.{instance_is_typed}
use Rattle.ipdl_instances.proofs.sites.instance_is_typed.Goals as goal

pub returns : goal.returns
returns c = instance_is_typed
