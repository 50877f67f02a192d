use Rattle.ipdl_norm.proofs.ShapeMeanings.{shaped_is_equal}
use Rattle.ipdl_norm.proofs.shape_laws.shaped_is_equal.Goals as goal

pub returns : goal.returns
returns c = shaped_is_equal
