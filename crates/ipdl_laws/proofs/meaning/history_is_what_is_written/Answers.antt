use Rattle.ipdl_laws.proofs.Histories.{history_of_protocol}
use Rattle.ipdl_laws.proofs.meaning.history_is_what_is_written.Goals as goal

pub returns : goal.returns
returns c = history_of_protocol
