use Rattle.ipdl_laws.proofs.EqualLaws.{equal_refl}
use Rattle.ipdl_laws.proofs.equality.equal_is_reflexive.Goals as goal

pub returns : goal.returns
returns c = equal_refl
