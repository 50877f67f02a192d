use Rattle.ipdl_instances.proofs.Composed.{AreDisjoint-plugged}
use Rattle.ipdl_instances.proofs.composition.hidden_in_part.Goals as goal

pub returns : goal.returns
returns c = AreDisjoint-plugged
