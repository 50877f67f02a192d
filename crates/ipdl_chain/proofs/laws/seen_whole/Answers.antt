use Rattle.ipdl_chain.proofs.Views.{seen_whole}
use Rattle.ipdl_chain.proofs.laws.seen_whole.Goals as goal

pub returns : goal.returns
returns c = seen_whole
