use Rattle.ipdl_instances.proofs.Instances.{site_at_place}
use Rattle.ipdl_instances.proofs.sites.site_at_place.Goals as goal

pub returns : goal.returns
returns c = site_at_place
