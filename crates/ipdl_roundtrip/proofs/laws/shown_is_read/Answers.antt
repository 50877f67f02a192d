use Rattle.std.proofs.Common.{◌≤◌, ◌∙◌, arith}
use Rattle.ipdl_term.specs.Sizes.{printed_depth, greatest_printed_depth}
use Rattle.ipdl_printing.specs.Printing.{protocol_tree}
use Rattle.ipdl_roundtrip.proofs.laws.shown_is_read.Goals as goal

pub returns : goal.returns
returns c = λ symbols p showable formed.
    let shallow : printed_depth p ≤ greatest_printed_depth = showable.depth in
    let deep = c.printed_tree_depth.ensures symbols p in
    let read = c.written_is_read.ensures (protocol_tree symbols p) formed (omega (arith, deep)) in
    (read.0, ((read.1).0, (read.1).1, (read.1).2 ∙ c.printed_tree_has_no_offsets.ensures symbols p))
