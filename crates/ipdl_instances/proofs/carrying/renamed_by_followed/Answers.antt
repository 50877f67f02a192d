use Rattle.ipdl_instances.proofs.Carried.{renamed_by_followed}
use Rattle.ipdl_instances.proofs.carrying.renamed_by_followed.Goals as goal

pub returns : goal.returns
returns c = renamed_by_followed
