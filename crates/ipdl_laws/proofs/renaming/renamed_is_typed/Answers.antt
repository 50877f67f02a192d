use Rattle.ipdl_laws.proofs.RenamedTerms.{IsTyped-renamed}
use Rattle.ipdl_laws.proofs.renaming.renamed_is_typed.Goals as goal

pub returns : goal.returns
returns c = IsTyped-renamed
