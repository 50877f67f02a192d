use Rattle.ipdl_laws.proofs.PairedRounds.{parts_reach_the_least}
use Rattle.ipdl_laws.proofs.meaning.parts_reach_the_least.Goals as goal

pub returns : goal.returns
returns c = parts_reach_the_least
