use Rattle.ipdl_instances.proofs.Composed.{renamed_agree}
use Rattle.ipdl_instances.proofs.composition.renamed_alike.Goals as goal

pub returns : goal.returns
returns c = renamed_agree
