use Rattle.ipdl_instances.proofs.Composed.{renamed-plugged}
use Rattle.ipdl_instances.proofs.composition.renamed_in_context.Goals as goal

pub returns : goal.returns
returns c = renamed-plugged
