use Rattle.ipdl_instances.proofs.Instances.{site_of_instance}
use Rattle.ipdl_instances.proofs.sites.site_of_instance.Goals as goal

pub returns : goal.returns
returns c = site_of_instance
