use Rattle.ipdl_cursor.proofs.AroundPlaces.{scope-around}
use Rattle.ipdl_cursor.proofs.laws.scope_around_place.Goals as goal

pub returns : goal.returns
returns c = scope-around
