use Rattle.ipdl_laws.proofs.PlaceLaws.{context_at_place}
use Rattle.ipdl_laws.proofs.places.context_at_place.Goals as goal

pub returns : goal.returns
returns c = context_at_place
