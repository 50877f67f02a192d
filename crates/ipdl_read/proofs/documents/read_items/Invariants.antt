use Rattle.ipdl_read.proofs.ReadDocuments.{AreRead}
use Rattle.ipdl_read.proofs.documents.read_items.Given as goal

abbrev pub invariant-loop-tree : goal.invariant-loop-tree
invariant-loop-tree l = AreRead l.trees l.sig l.items l.tree-index
