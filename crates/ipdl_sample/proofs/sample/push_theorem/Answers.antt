use Rattle.std.specs.Prelude.{codes}
use Rattle.std.specs.Fmt.{decimal}
use Rattle.ipdl_sample.proofs.Pieces.{theorem_pieces}
use Rattle.ipdl_sample.proofs.sample.push_theorem.Goals as goal

pub returns : goal.returns
returns c =
    theorem_pieces
    (codes "(theorem T")
    (decimal c.args.number)
    (codes " L")
    (codes " R")
    (codes " (left (fold () (1 0)) (mask (0 1) x0) (lin (0 1 1 0) x1) (eta (0 1))) (right))")
    _ _ _ _ _
    c.in_ok-push_numbered.ensures c.in_ok-push_numbered-2.ensures c.in_ok-push_numbered-3.ensures c.in_ok-extend_from_slice.ensures.items
