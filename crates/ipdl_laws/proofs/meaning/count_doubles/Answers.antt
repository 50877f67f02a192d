use Rattle.ipdl_laws.proofs.FurtherBits.{history_count_doubles}
use Rattle.ipdl_laws.proofs.meaning.count_doubles.Goals as goal

pub returns : goal.returns
returns c = history_count_doubles
