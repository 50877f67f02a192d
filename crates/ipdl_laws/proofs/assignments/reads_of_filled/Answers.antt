use Rattle.ipdl_laws.proofs.FilledReactions.{reads_filled}
use Rattle.ipdl_laws.proofs.assignments.reads_of_filled.Goals as goal

pub returns : goal.returns
returns c = reads_filled
