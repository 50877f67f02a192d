use Rattle.std.proofs.Common.{map, ap, ◌∙◌}
use Rattle.std.proofs.lemmas.List.{at_drop_all, take_all}
use Rattle.std.proofs.lemmas.List.Elements.{All-push, All-same}
use Rattle.std.proofs.lemmas.Result.{err_from_is_err_and}
use Rattle.std.specs.Borrow.{Bor}
use Rattle.ipdl_script.proofs.AddedLists.{told_of_next, extents_of_later, made_one_more}
use Rattle.ipdl_script.specs.Adding.{whole_in}
use Rattle.ipdl_script.specs.Steps.{KeepsLimits, extent_tests, first_refusal}
use Rattle.ipdl_term.specs.Views.{protocol_of}
use Rattle.ipdl_term.specs.declared.protocol.Proto.{Proto}
use Rattle.ipdl_script.proofs.whole_terms.whole_terms.Goals as goal

pub returns-in_err-whole_term-clause-test : goal.returns-in_err-whole_term-clause-test
returns-in_err-whole_term-clause-test c =
    let p = err_from_is_err_and c.from_residual.result c.from_residual.ensures.1 in
    rw (p.1, p.2) (λ C at.
    told_of_next (λ (term : Bor Proto). whole_in C c.args.renaming.now term.now) c.args.terms.now c.loop-term.term-index c.term-item.result c.loop-term-test.true c.term-item.is
    c.in_err-whole_term.field-0.0 _ (c.loop-term.invariant.test C at) (c.in_err-whole_term.ensures.test C at))

pub loop-term-preserved : goal.loop-term-preserved
loop-term-preserved c = record {
  test = λ C at.
      extents_of_later (λ (term : Bor Proto). whole_in C c.args.renaming.now term.now) c.args.terms.now c.loop-term.term-index c.term-item.result c.loop-term-test.true c.term-item.is
      _ (c.loop-term.invariant.test C at) (c.in_ok-whole_term.ensures.test C at);
  value = λ C at.
      made_one_more (λ (term : Bor Proto). whole_in C c.args.renaming.now term.now) c.args.terms.now c.loop-term.term-index c.term-item.result c.loop-term-test.true c.term-item.is
      protocol_of _ _ _ c.in_ok-push.ensures.ok (c.in_ok-whole_term.ensures.value C at) (c.loop-term.invariant.value C at);
  limits =
      let Kept : Proto → Type 0 = λ term. KeepsLimits (protocol_of term) in
      All-same Kept _ _ c.in_ok-push.ensures.ok (All-push Kept _ _ c.loop-term.invariant.limits c.in_ok-whole_term.ensures.limits);
}

pub returns-clause-test : goal.returns-clause-test
returns-clause-test c = λ C at.
    c.loop-term.invariant.test C at
    ∙ at_drop_all (λ terms. first_refusal (extent_tests (map (λ (term : Bor Proto). whole_in C c.args.renaming.now term.now) terms))) c.args.terms.now c.loop-term.term-index c.loop-term-test.false

pub returns-clause-value : goal.returns-clause-value
returns-clause-value c = λ C at.
    c.loop-term.invariant.value C at
    ∙ ap (map (λ (term : Bor Proto). whole_in C c.args.renaming.now term.now)) (take_all c.loop-term.term-index c.args.terms.now c.loop-term-test.false)
