use Rattle.ipdl_laws.proofs.RenamingPairs.{use_at_place}
use Rattle.ipdl_laws.proofs.renaming.use_at_place.Goals as goal

pub returns : goal.returns
returns c = use_at_place
