use Rattle.ipdl_tree.proofs.ReaderSteps.{begun}
use Rattle.ipdl_tree.proofs.reader.Reader.end_and_begin.Goals as goal

pub returns : goal.returns
returns c =
    let e = c.in_ok-end_token.ensures.ended c.args.front.now in
    record { step = begun _ _ _ _ _ _ _ _ e c.beginning_of.ensures c.begin.ensures.step }
