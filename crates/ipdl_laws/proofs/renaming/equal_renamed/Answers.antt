use Rattle.ipdl_laws.proofs.RenamedEqual.{equal_renamed}
use Rattle.ipdl_laws.proofs.renaming.equal_renamed.Goals as goal

pub returns : goal.returns
returns c = equal_renamed
