use Rattle.ipdl_printing.proofs.PrintedOffsets.{without_offsets-protocol_tree}
use Rattle.ipdl_printing.proofs.laws.printed_tree_has_no_offsets.Goals as goal

pub returns : goal.returns
returns c = without_offsets-protocol_tree
