use Rattle.ipdl_printing.proofs.PrintedDepth.{depth_of-protocol_tree}
use Rattle.ipdl_printing.proofs.laws.printed_tree_depth.Goals as goal

pub returns : goal.returns
returns c = depth_of-protocol_tree
