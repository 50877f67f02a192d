use Rattle.ipdl_laws.proofs.EqualLaws.{equal_trans}
use Rattle.ipdl_laws.proofs.equality.equal_is_transitive.Goals as goal

pub returns : goal.returns
returns c = equal_trans
