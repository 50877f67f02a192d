use Rattle.std.proofs.Common.{◌≡◌, ◌<◌, Some, length, get_or, sym, ap, subst, ◌∙◌, arith}
use Rattle.std.proofs.lemmas.Option.{slice_get-get_or}
use Rattle.std.proofs.lemmas.Result.{err_from_is_err_and}
use Rattle.std.specs.Prelude.{All}
use Rattle.ipdl_forms.specs.declared.document.Document.{Document as Held}
use Rattle.ipdl_uses.specs.Views.{IsKept}
use Rattle.ipdl_top.proofs.Readiness.{IsReadyItem-there}
use Rattle.ipdl_top.proofs.Theorems.{IsDone-next, IsStop-item, proved_text-done}
use Rattle.ipdl_top.proofs.scripts.proved_text.Goals as goal

pub add_item-requires-clause-ready : goal.add_item-requires-clause-ready
add_item-requires-clause-ready c =
    let items = c.args.document.now.items in
    let less : c.loop-item.item-index < length items = omega (arith, ap length c.as_slice-item-items.ensures) in
    let there : c.item-item.result ≡ get_or items c.loop-item.item-index c.item-item.result =
    let is = c.item-item.is in let slice = c.as_slice-item-items.ensures in cc in
    IsReadyItem-there c.args.document.now c.requires.spelled.0 c.loop-item.book c.loop-item.item-index c.item-item.result
    c.requires.spelled.1 c.requires.within c.requires.typed c.loop-item.invariant.document
    (omega (arith, c.loop-item.invariant.held, c.loop-item.invariant.short)) c.loop-item.invariant.kept
    (slice_get-get_or items c.loop-item.item-index c.item-item.result less ∙ ap Some (sym there))

pub returns-in_err-neighbours-clause-tests : goal.returns-in_err-neighbours-clause-tests
returns-in_err-neighbours-clause-tests c =
    let items = c.args.document.now.items in
    let less : c.loop-item.item-index < length items = omega (arith, ap length c.as_slice-item-items.ensures) in
    let there : c.item-item.result ≡ get_or items c.loop-item.item-index c.item-item.result =
    let is = c.item-item.is in let slice = c.as_slice-item-items.ensures in cc in
    let p = err_from_is_err_and c.from_residual.result c.from_residual.ensures.1 in
    rw (p.1, p.2)
    (IsStop-item c.loop-item.book.document.now c.args.document.now c.loop-item.item-index c.item-item.result _ _ _ c.loop-item.text.items _
    c.loop-item.invariant.document c.loop-item.invariant.held less there c.loop-item.invariant.done c.in_err-neighbours.ensures.tests)

pub loop-item-preserved : goal.loop-item-preserved
loop-item-preserved c =
    let items = c.args.document.now.items in
    let less : c.loop-item.item-index < length items = omega (arith, ap length c.as_slice-item-items.ensures) in
    let there : c.item-item.result ≡ get_or items c.loop-item.item-index c.item-item.result =
    let is = c.item-item.is in let slice = c.as_slice-item-items.ensures in cc in
    record {
      document = c.in_ok-neighbours.ensures.document ∙ c.loop-item.invariant.document;
      done = IsDone-next c.loop-item.book.document.now c.args.document.now c.loop-item.item-index c.item-item.result _ _ _ c.loop-item.neighbours c.in_ok-neighbours.field-0 c.loop-item.text.items c.add_item.new.text.items
          c.loop-item.invariant.document c.loop-item.invariant.held less there c.loop-item.invariant.done
          (record {
            refusal = c.in_ok-neighbours.ensures.tests;
            proves = c.in_ok-neighbours.ensures.theorems;
            count = c.in_ok-neighbours.ensures.count;
            writes = c.in_ok-neighbours.ensures.text;
          });
      held = omega (arith, c.in_ok-neighbours.ensures.neighbours, c.loop-item.invariant.held);
      short = omega (arith, c.in_ok-neighbours.ensures.short, c.loop-item.invariant.held);
      kept = subst (λ (h : Held). All (IsKept (length h.sig)) c.add_item.new.book.chains) (sym c.in_ok-neighbours.ensures.document) c.in_ok-neighbours.ensures.kept;
    }

pub returns-clause-text : goal.returns-clause-text
returns-clause-text c =
    proved_text-done c.args.document.now c.loop-item.item-index _ c.loop-item.neighbours c.theorem_count.result c.loop-item.text.items _
    c.loop-item.invariant.done
    (omega (arith, ap length c.as_slice-item-items.ensures))
    c.theorem_count.ensures c.in_ok-push_accepted_line.ensures
