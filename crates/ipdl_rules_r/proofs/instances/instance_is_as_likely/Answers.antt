use Rattle.ipdl_rules_r.proofs.InstanceMeanings.{instance_is_as_likely}
use Rattle.ipdl_rules_r.proofs.instances.instance_is_as_likely.Goals as goal

pub returns : goal.returns
returns c = instance_is_as_likely
