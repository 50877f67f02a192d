use Rattle.ipdl_laws.proofs.RenamedTerms.{coins-renamed}
use Rattle.ipdl_laws.proofs.renaming.coins_of_renamed.Goals as goal

pub returns : goal.returns
returns c = coins-renamed
