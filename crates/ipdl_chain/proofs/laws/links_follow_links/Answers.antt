use Rattle.ipdl_chain.proofs.Links.{links_text-append}
use Rattle.ipdl_chain.proofs.laws.links_follow_links.Goals as goal

pub returns : goal.returns
returns c = links_text-append
