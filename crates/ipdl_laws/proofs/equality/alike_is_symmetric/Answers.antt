use Rattle.ipdl_laws.proofs.Congruence.{alike_sym}
use Rattle.ipdl_laws.proofs.equality.alike_is_symmetric.Goals as goal

pub returns : goal.returns
returns c = alike_sym
