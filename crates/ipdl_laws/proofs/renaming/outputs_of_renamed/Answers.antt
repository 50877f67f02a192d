use Rattle.ipdl_laws.proofs.RenamedTerms.{outputs-renamed}
use Rattle.ipdl_laws.proofs.renaming.outputs_of_renamed.Goals as goal

pub returns : goal.returns
returns c = outputs-renamed
