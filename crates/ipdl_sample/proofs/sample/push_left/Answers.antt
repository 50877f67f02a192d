use Rattle.std.specs.Prelude.{codes}
use Rattle.std.specs.Fmt.{decimal}
use Rattle.ipdl_sample.proofs.Pieces.{left_pieces}
use Rattle.ipdl_sample.specs.Samples.{ports_text}
use Rattle.ipdl_sample.proofs.sample.push_left.Goals as goal

pub returns : goal.returns
returns c =
    left_pieces
    (codes "(protocol L")
    (decimal c.args.number)
    (ports_text c.args.width)
    (codes " (new ((k ")
    (decimal c.args.width)
    (codes ")) (par (out c (bind x ")
    (codes " (read m) (bind y ")
    (codes " (read k) (ret (xor x y))))) (out k (flip ")
    (codes ")))))")
    _ _ _ _ _ _ _ _
    c.in_ok-push_numbered.ensures c.in_ok-push_ports.ensures c.in_ok-push_numbered-2.ensures c.in_ok-push_numbered-3.ensures c.in_ok-push_numbered-4.ensures c.in_ok-push_numbered-5.ensures c.in_ok-extend_from_slice.ensures.items
