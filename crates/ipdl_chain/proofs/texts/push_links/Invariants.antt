use Rattle.std.proofs.Common.{◌≡◌, ◌++◌, suc, drop}
use Rattle.ipdl_chain.specs.ChainTexts.{links_text}
use Rattle.ipdl_chain.specs.Views.{chain_of, links_of, others_of}
use Rattle.ipdl_chain.proofs.texts.push_links.Given as goal

-- what is written, and the links to come, are the text
abbrev pub invariant-loop-index : goal.invariant-loop-index
invariant-loop-index l =
    l.text.items ++ links_text l.sig (suc l.index) (links_of (drop l.index l.chain.marks) (others_of (drop l.index l.chain.terms)))
    ≡ l.fn.text.items ++ links_text l.sig 1 (chain_of l.chain).links
