use Rattle.ipdl_laws.proofs.Congruence.{alike_beside_left}
use Rattle.ipdl_laws.proofs.equality.alike_beside_left.Goals as goal

pub returns : goal.returns
returns c = alike_beside_left
