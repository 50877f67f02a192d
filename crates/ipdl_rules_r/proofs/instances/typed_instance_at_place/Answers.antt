use Rattle.ipdl_rules_r.proofs.InstanceMeanings.{typed_instance_at_place}
use Rattle.ipdl_rules_r.proofs.instances.typed_instance_at_place.Goals as goal

pub returns : goal.returns
returns c = typed_instance_at_place
