use Rattle.ipdl_tree.proofs.Outcomes.{written_is_read}
use Rattle.ipdl_tree.proofs.laws.written_is_read.Goals as goal

pub returns : goal.returns
returns c = written_is_read
