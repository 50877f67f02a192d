use Rattle.std.specs.Prelude.{codes}
use Rattle.std.specs.Fmt.{decimal}
use Rattle.ipdl_sample.proofs.Pieces.{ports_pieces}
use Rattle.ipdl_sample.proofs.sample.push_ports.Goals as goal

pub returns : goal.returns
returns c =
    ports_pieces
    (codes " (inputs (m ")
    (decimal c.args.width)
    (codes ")) (outputs (c ")
    (codes "))")
    _ _ _ _
    c.in_ok-push_numbered.ensures c.in_ok-push_numbered-2.ensures c.in_ok-extend_from_slice.ensures.items
