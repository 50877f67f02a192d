use Rattle.ipdl_laws.proofs.Congruence.{alike_under_hiding}
use Rattle.ipdl_laws.proofs.equality.alike_under_hiding.Goals as goal

pub returns : goal.returns
returns c = alike_under_hiding
