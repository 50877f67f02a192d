use Rattle.ipdl_chain.proofs.Lines.{first_pair_written}
use Rattle.ipdl_chain.proofs.texts.push_spaced_pairs.Goals as goal

pub loop-pair-init : goal.loop-pair-init
loop-pair-init c =
    first_pair_written c.args.pairs.now c.first-item.result c.args.text.now.items _ c.in-len1-up.len_at_least
    c.first-item.is c.in_ok-push_pair.ensures
