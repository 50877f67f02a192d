use Rattle.ipdl_laws.proofs.EqualLaws.{equal_sym}
use Rattle.ipdl_laws.proofs.equality.equal_is_symmetric.Goals as goal

pub returns : goal.returns
returns c = equal_sym
