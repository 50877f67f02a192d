use Rattle.ipdl_instances.proofs.Instances.{place_of_context}
use Rattle.ipdl_instances.proofs.sites.place_of_context.Goals as goal

pub returns : goal.returns
returns c = place_of_context
