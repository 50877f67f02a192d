use Rattle.ipdl_norm.proofs.ShapeMeanings.{shaped_at_place}
use Rattle.ipdl_norm.proofs.shape_laws.shaped_at_place.Goals as goal

pub returns : goal.returns
returns c = shaped_at_place
