use Rattle.std.proofs.Common.{◌≡◌, ℕ, [], drop, map, length, sym, ap, ◌∙◌, arith, Vec, Global}
use Rattle.std.proofs.lemmas.List.{drop_all, length-map}
use Rattle.ipdl_forms.specs.Documents.{document_of, entry_of}
use Rattle.ipdl_top.proofs.Texts.{summary_text-pieces}
use Rattle.ipdl_top.proofs.summaries.summary_text.Goals as goal

pub returns : goal.returns
returns c =
    let items = c.args.document.now.items in
    let ended : drop c.loop-item.item-index items ≡ [] = drop_all c.loop-item.item-index items (omega (arith, ap length c.as_slice-item-items.ensures)) in
    ap (λ (v : Vec ℕ Global). v.items) c.into_bytes.ensures.value
    ∙ summary_text-pieces (document_of c.args.document.now) (map (entry_of c.args.document.now.sig) (drop c.loop-item.item-index items)) (length c.as_slice.result.now) _ _
    (ap (map (entry_of c.args.document.now.sig)) ended) c.loop-item.invariant.written
    (ap length c.as_slice.ensures ∙ sym (length-map items (entry_of c.args.document.now.sig))) c.in_ok-push_typed.ensures
