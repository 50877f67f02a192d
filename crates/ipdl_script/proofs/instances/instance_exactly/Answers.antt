use Rattle.ipdl_script.proofs.InstanceLaws.{instance_exactly}
use Rattle.ipdl_script.proofs.instances.instance_exactly.Goals as goal

pub returns : goal.returns
returns c = instance_exactly
