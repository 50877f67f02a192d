use Rattle.std.proofs.Common.{length, sym, ap, ◌∙◌}
use Rattle.ipdl_chain.specs.Views.{others_of}
use Rattle.ipdl_chain.proofs.Counts.{length-links_of}
use Rattle.ipdl_chain.proofs.chain.Chain.neighbours.Goals as goal

pub returns : goal.returns
returns c = ap length c.as_slice.ensures ∙ sym (length-links_of c.args.self.now.marks (others_of c.args.self.now.terms))
