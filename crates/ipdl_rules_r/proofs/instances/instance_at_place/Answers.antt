use Rattle.ipdl_rules_r.proofs.InstanceMeanings.{instance_at_place}
use Rattle.ipdl_rules_r.proofs.instances.instance_at_place.Goals as goal

pub returns : goal.returns
returns c = instance_at_place
