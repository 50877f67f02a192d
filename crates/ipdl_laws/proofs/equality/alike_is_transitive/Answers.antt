use Rattle.ipdl_laws.proofs.Congruence.{alike_trans}
use Rattle.ipdl_laws.proofs.equality.alike_is_transitive.Goals as goal

pub returns : goal.returns
returns c = alike_trans
