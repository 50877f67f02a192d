use Rattle.ipdl_laws.proofs.Monotone.{rounds_reach_the_least}
use Rattle.ipdl_laws.proofs.meaning.rounds_reach_the_least.Goals as goal

pub returns : goal.returns
returns c = rounds_reach_the_least
