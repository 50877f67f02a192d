use Rattle.ipdl_instances.proofs.Composed.{renamed-twice}
use Rattle.ipdl_instances.proofs.composition.renamed_twice.Goals as goal

pub returns : goal.returns
returns c = renamed-twice
