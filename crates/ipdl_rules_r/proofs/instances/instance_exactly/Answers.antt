use Rattle.ipdl_rules_r.proofs.InstanceLaws.{instance_exactly}
use Rattle.ipdl_rules_r.proofs.instances.instance_exactly.Goals as goal

pub returns : goal.returns
returns c = instance_exactly
