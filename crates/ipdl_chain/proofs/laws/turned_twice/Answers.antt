use Rattle.ipdl_chain.proofs.Turns.{last_of-turned, turned_links-turned}
use Rattle.ipdl_chain.proofs.laws.turned_twice.Goals as goal

pub returns : goal.returns
returns c = λ first links. (last_of-turned first links, turned_links-turned first links)
