use Rattle.ipdl_laws.proofs.FixedInputLaws.{told_apart}
use Rattle.ipdl_laws.proofs.nontrivial.feeding_back_tells_apart.Goals as goal

pub returns : goal.returns
returns c = told_apart
