use Rattle.ipdl_laws.proofs.PlaceLaws.{equal_at_place}
use Rattle.ipdl_laws.proofs.places.equal_at_place.Goals as goal

pub returns : goal.returns
returns c = equal_at_place
