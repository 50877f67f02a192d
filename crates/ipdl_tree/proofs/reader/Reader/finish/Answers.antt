use Rattle.ipdl_tree.proofs.ReaderSteps.{finished}
use Rattle.ipdl_tree.proofs.reader.Reader.finish.Goals as goal

pub returns : goal.returns
returns c =
    let e = c.in_ok-end_token.ensures.ended c.args.text.now in
    finished _ _ _ _ _ e (c.into_tree.ensures c.args.text.now)
