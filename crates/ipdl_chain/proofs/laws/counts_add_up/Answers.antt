use Rattle.ipdl_chain.proofs.Counts.{neighbour_count-sum}
use Rattle.ipdl_chain.proofs.laws.counts_add_up.Goals as goal

pub returns : goal.returns
returns c = neighbour_count-sum
