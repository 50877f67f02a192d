use Rattle.ipdl_laws.proofs.PlaceLaws.{alike_at_place}
use Rattle.ipdl_laws.proofs.places.alike_at_place.Goals as goal

pub returns : goal.returns
returns c = alike_at_place
