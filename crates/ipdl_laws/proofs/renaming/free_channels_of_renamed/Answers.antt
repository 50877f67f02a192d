use Rattle.ipdl_laws.proofs.RenamedTerms.{free_channels-renamed}
use Rattle.ipdl_laws.proofs.renaming.free_channels_of_renamed.Goals as goal

pub returns : goal.returns
returns c = free_channels-renamed
