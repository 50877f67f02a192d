use Rattle.std.proofs.Common.{◌≡◌, ◌<◌, List, [], length, ap, subst, arith}
use Rattle.std.proofs.lemmas.Result.{err_from_is_err_and}
use Rattle.ipdl_tree.specs.Views.{located}
use Rattle.ipdl_forms.specs.declared.document.Item.{Item}
use Rattle.ipdl_forms.specs.Documents.{entry_of}
use Rattle.ipdl_forms.specs.Faults.{TellsFirst}
use Rattle.ipdl_forms.specs.Items.{SpellsEntry, item_faults, most_items}
use Rattle.ipdl_read.specs.Parts.{earlier_at}
use Rattle.ipdl_read.proofs.ReadDocuments.{AreRead-none, AreRead-more, AreRead-first, AreRead-entries}
use Rattle.ipdl_read.proofs.documents.read_items.Goals as goal

pub loop-tree-init : goal.loop-tree-init
loop-tree-init c = AreRead-none _ _ _ c.empty-sig.ensures c.empty-items.ensures

pub returns-in_err-item-clause-first : goal.returns-in_err-item-clause-first
returns-in_err-item-clause-first c =
    let p = err_from_is_err_and c.from_residual.result c.from_residual.ensures.1 in
    let few : length c.loop-tree.items < most_items = omega (arith, ap length c.as_slice.ensures, c.if-as_slice-number.false, c.number.ensures) in
    rw (p.1, p.2)
    (AreRead-first c.in_err-item.field-0.0 c.args.trees.now c.loop-tree.sig c.loop-tree.items c.loop-tree.tree-index c.tree-item.result c.loop-tree.invariant c.loop-tree-test.true c.tree-item.is few
    (subst (λ (items : List Item). TellsFirst c.in_err-item.field-0.0 (item_faults (earlier_at c.loop-tree.sig items) (located c.tree-item.result))) c.as_slice-in-loop-tree.ensures c.in_err-item.ensures.first))

pub loop-tree-preserved : goal.loop-tree-preserved
loop-tree-preserved c =
    let few : length c.loop-tree.items < most_items = omega (arith, ap length c.as_slice.ensures, c.if-as_slice-number.false, c.number.ensures) in
    let spelled = subst (λ (items : List Item). SpellsEntry (earlier_at c.loop-tree.sig items) (entry_of c.read_item.new.sig c.in_ok-item.item) (located c.tree-item.result)) c.as_slice-in-loop-tree.ensures c.in_ok-item.ensures.spelled in
    let clean = subst (λ (items : List Item). item_faults (earlier_at c.loop-tree.sig items) (located c.tree-item.result) ≡ []) c.as_slice-in-loop-tree.ensures c.in_ok-item.ensures.clean in
    AreRead-more c.args.trees.now c.loop-tree.sig c.read_item.new.sig c.loop-tree.items c.in_ok-item.item c.loop-tree.tree-index c.tree-item.result c.loop-tree.invariant c.loop-tree-test.true c.tree-item.is few c.in_ok-item.ensures.symbols spelled clean c.push.new.self c.in_ok-push.ensures.ok

pub returns-clause-entries : goal.returns-clause-entries
returns-clause-entries c =
    AreRead-entries c.args.trees.now c.loop-tree.sig c.loop-tree.items c.loop-tree.tree-index c.loop-tree.invariant c.loop-tree-test.false
