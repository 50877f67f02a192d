use Rattle.ipdl_laws.proofs.Congruence.{alike_refl}
use Rattle.ipdl_laws.proofs.equality.alike_is_reflexive.Goals as goal

pub returns : goal.returns
returns c = alike_refl
