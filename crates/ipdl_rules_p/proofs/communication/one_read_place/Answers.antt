use Rattle.ipdl_rules_p.proofs.ReadPlaces.{one_read_place}
use Rattle.ipdl_rules_p.proofs.communication.one_read_place.Goals as goal

pub returns : goal.returns
returns c = one_read_place
