use Rattle.std.proofs.Common.{nat_eq, ap₂, ◌∙◌}
use Rattle.ipdl_chain.specs.Views.{chain_of}
use Rattle.ipdl_uses.proofs.AddedLinks.{exact_test}
use Rattle.ipdl_uses.proofs.adding.rests_on_none.Goals as goal

pub returns : goal.returns
returns c = ap₂ nat_eq c.exact.ensures c.neighbours.ensures ∙ exact_test (chain_of c.args.chain.now)
