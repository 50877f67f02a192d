use Rattle.std.specs.Prelude.{codes}
use Rattle.std.specs.Fmt.{decimal}
use Rattle.ipdl_sample.proofs.Pieces.{right_pieces}
use Rattle.ipdl_sample.specs.Samples.{ports_text}
use Rattle.ipdl_sample.proofs.sample.push_right.Goals as goal

pub returns : goal.returns
returns c =
    right_pieces
    (codes "(protocol R")
    (decimal c.args.number)
    (ports_text c.args.width)
    (codes " (out c (bind x ")
    (decimal c.args.width)
    (codes " (read m) (flip ")
    (codes "))))")
    _ _ _ _ _ _
    c.in_ok-push_numbered.ensures c.in_ok-push_ports.ensures c.in_ok-push_numbered-2.ensures c.in_ok-push_numbered-3.ensures c.in_ok-extend_from_slice.ensures.items
