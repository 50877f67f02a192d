use Rattle.ipdl_instances.proofs.Instances.{instances_are_equal}
use Rattle.ipdl_instances.proofs.sites.instances_are_equal.Goals as goal

pub returns : goal.returns
returns c = instances_are_equal
