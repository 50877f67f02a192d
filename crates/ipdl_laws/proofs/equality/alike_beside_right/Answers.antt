use Rattle.ipdl_laws.proofs.Congruence.{alike_beside_right}
use Rattle.ipdl_laws.proofs.equality.alike_beside_right.Goals as goal

pub returns : goal.returns
returns c = alike_beside_right
