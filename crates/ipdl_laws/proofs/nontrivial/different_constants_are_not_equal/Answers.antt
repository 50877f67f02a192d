use Rattle.ipdl_laws.proofs.Constants.{constants_not_equal}
use Rattle.ipdl_laws.proofs.nontrivial.different_constants_are_not_equal.Goals as goal

pub returns : goal.returns
returns c = constants_not_equal
