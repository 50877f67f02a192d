use Rattle.ipdl_rules_r.proofs.InstanceMeanings.{instance_means}
use Rattle.ipdl_rules_r.proofs.instances.instance_means.Goals as goal

pub returns : goal.returns
returns c = instance_means
