use Rattle.std.proofs.Common.{◌≡◌, drop, map}
use Rattle.ipdl_forms.specs.Documents.{document_of, entry_of}
use Rattle.ipdl_top.specs.Refusals.{first_refusal}
use Rattle.ipdl_top.specs.Typed.{judged_by_type, type_refusal}
use Rattle.ipdl_top.proofs.typing.test_items.Given as goal

-- no test of the items so far fails
abbrev pub invariant-loop-item : goal.invariant-loop-item
invariant-loop-item l =
    type_refusal (document_of l.document)
    ≡ first_refusal (judged_by_type (document_of l.document)) l.item-index (map (entry_of l.document.sig) (drop l.item-index l.document.items))
