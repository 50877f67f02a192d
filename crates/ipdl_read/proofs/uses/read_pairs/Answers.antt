use Rattle.ipdl_read.proofs.PairForms.{ArePairsSoFar-end}
use Rattle.ipdl_read.proofs.uses.read_pairs.Goals as goal

pub returns-clause-spelled : goal.returns-clause-spelled
returns-clause-spelled c =
    ArePairsSoFar-end c.loop-part.seen c.loop-part.pairs _ c.loop-part.part-index _ c.loop-part-test.false c.loop-part.invariant
