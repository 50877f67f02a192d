use Rattle.ipdl_linear.proofs.Nodes.{adding}
use Rattle.ipdl_linear.proofs.numbering.Numbering.number.Goals as goal

pub returns : goal.returns
returns c =
    let stored = c.in_ok-number.ensures.stored in
    adding c.self.inside.nodes.keys c.insert_full.new.self.keys c.in_ok-number.number c.args.node c.in_ok-number.ensures.keys c.insert_full.ensures.unique stored.0 stored.1 stored.2 c.args.self.now c.self.view_is
