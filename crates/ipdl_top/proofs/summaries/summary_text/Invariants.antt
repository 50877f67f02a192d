use Rattle.std.proofs.Common.{◌≡◌, ◌++◌, drop, map, string_bytes}
use Rattle.ipdl_forms.specs.Documents.{document_of, entry_of}
use Rattle.ipdl_top.specs.Summaries.{AreCounted, item_summaries}
use Rattle.ipdl_top.proofs.summaries.summary_text.Given as goal

-- the lines of the items so far are written
abbrev pub invariant-loop-item : goal.invariant-loop-item
invariant-loop-item l = record {
  counted : AreCounted (map (entry_of l.document.sig) (drop l.item-index l.document.items));
  written : item_summaries (document_of l.document).entries
      ≡ string_bytes l.text ++ item_summaries (map (entry_of l.document.sig) (drop l.item-index l.document.items));
}
