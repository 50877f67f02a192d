use Rattle.ipdl_chain.proofs.Lines.{accepted_line-pieces}
use Rattle.ipdl_chain.proofs.texts.push_accepted_line.Goals as goal

pub returns : goal.returns
returns c =
    accepted_line-pieces c.args.theorems c.args.neighbours _ _ _ _ _ _ c.in_ok-extend_from_slice.ensures.items
    c.in_ok-push_number.ensures c.in_ok-extend_from_slice-2.ensures.items c.in_ok-push_number-2.ensures c.in_ok-push.ensures.items
