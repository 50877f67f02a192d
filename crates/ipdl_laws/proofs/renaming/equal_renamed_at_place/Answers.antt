use Rattle.ipdl_laws.proofs.RenamedEqual.{equal_renamed_at_place}
use Rattle.ipdl_laws.proofs.renaming.equal_renamed_at_place.Goals as goal

pub returns : goal.returns
returns c = equal_renamed_at_place
