use Rattle.ipdl_norm.proofs.ShapeMeanings.{shaped_is_typed}
use Rattle.ipdl_norm.proofs.shape_laws.shaped_is_typed.Goals as goal

pub returns : goal.returns
returns c = shaped_is_typed
