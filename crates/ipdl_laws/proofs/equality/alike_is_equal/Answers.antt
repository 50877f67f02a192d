use Rattle.ipdl_laws.proofs.Soundness.{alike_is_equal}
use Rattle.ipdl_laws.proofs.equality.alike_is_equal.Goals as goal

pub returns : goal.returns
returns c = alike_is_equal
