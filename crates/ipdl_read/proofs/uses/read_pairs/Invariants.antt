use Rattle.std.proofs.Common.{drop}
use Rattle.ipdl_tree.specs.Views.{all_located}
use Rattle.ipdl_read.proofs.PairForms.{ArePairsSoFar}
use Rattle.ipdl_read.proofs.uses.read_pairs.Given as goal

-- the pairs so far are read
abbrev pub invariant-loop-part : goal.invariant-loop-part
invariant-loop-part l = ArePairsSoFar l.seen l.pairs (all_located (drop l.part-index l.parts)) (all_located l.parts)
