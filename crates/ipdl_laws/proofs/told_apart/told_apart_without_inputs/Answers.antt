use Rattle.ipdl_laws.proofs.Refuting.{closed_apart}
use Rattle.ipdl_laws.proofs.told_apart.told_apart_without_inputs.Goals as goal

pub returns : goal.returns
returns c = closed_apart
