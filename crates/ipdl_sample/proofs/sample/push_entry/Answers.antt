use Rattle.std.specs.Prelude.{codes}
use Rattle.ipdl_sample.proofs.Pieces.{entry_pieces}
use Rattle.ipdl_sample.specs.Samples.{left_text, right_text, theorem_text, width_of}
use Rattle.ipdl_sample.proofs.sample.push_entry.Goals as goal

pub returns : goal.returns
returns c =
    entry_pieces
    (codes " ")
    (left_text c.args.number (width_of c.args.number))
    (right_text c.args.number (width_of c.args.number))
    (theorem_text c.args.number)
    _ _ _ _ _ _ _
    c.in_ok-push.ensures.items c.in_ok-push_left.ensures c.in_ok-push-2.ensures.items c.in_ok-push_right.ensures c.in_ok-push-3.ensures.items c.in_ok-push_theorem.ensures
