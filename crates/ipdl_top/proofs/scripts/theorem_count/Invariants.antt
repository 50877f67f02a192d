use Rattle.std.proofs.Common.{◌≡◌, ◌+◌, ◌≤◌, drop, map}
use Rattle.ipdl_forms.specs.Documents.{document_of, entry_of}
use Rattle.ipdl_top.specs.Chains.{theorem_count}
use Rattle.ipdl_top.proofs.scripts.theorem_count.Given as goal

-- the theorems among the items so far are counted
abbrev pub invariant-loop-item : goal.invariant-loop-item
invariant-loop-item l = record {
  few : l.count ≤ l.item-index;
  counted : theorem_count (document_of l.document).entries
      ≡ l.count + theorem_count (map (entry_of l.document.sig) (drop l.item-index l.document.items));
}
