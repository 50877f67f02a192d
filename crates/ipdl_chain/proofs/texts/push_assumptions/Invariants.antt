use Rattle.std.proofs.Common.{◌≡◌, ◌++◌, map, drop}
use Rattle.ipdl_forms.specs.Documents.{document_of, entry_of}
use Rattle.ipdl_chain.specs.ChainTexts.{assumption_lines, assumptions_in}
use Rattle.ipdl_chain.specs.Views.{chain_of}
use Rattle.ipdl_chain.proofs.texts.push_assumptions.Given as goal

-- what is written, and the lines of the items to come, are the text
abbrev pub invariant-loop-item : goal.invariant-loop-item
invariant-loop-item l =
    l.text.items ++ assumption_lines (assumptions_in (map (entry_of l.document.sig) (drop l.item-index l.document.items))) (chain_of l.chain).links
    ≡ l.fn.text.items ++ assumption_lines (assumptions_in (document_of l.document).entries) (chain_of l.chain).links
