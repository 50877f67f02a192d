use Rattle.ipdl_sample.proofs.Pieces.{items_pieces}
use Rattle.ipdl_sample.proofs.sample.push_items.Goals as goal

pub loop-number-preserved : goal.loop-number-preserved
loop-number-preserved c =
    items_pieces _ _ _ c.loop-number.number c.args.count c.loop-number-test.true c.in_ok-push_entry.ensures c.loop-number.invariant
