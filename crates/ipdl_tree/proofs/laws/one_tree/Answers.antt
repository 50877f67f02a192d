use Rattle.ipdl_tree.proofs.Sources.{one_tree}
use Rattle.ipdl_tree.proofs.laws.one_tree.Goals as goal

pub returns : goal.returns
returns c = one_tree
