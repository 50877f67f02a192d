use Rattle.ipdl_laws.proofs.Histories.{history_exactly}
use Rattle.ipdl_laws.proofs.meaning.history_exactly.Goals as goal

pub returns : goal.returns
returns c = history_exactly
