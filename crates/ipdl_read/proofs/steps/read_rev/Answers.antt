use Rattle.std.proofs.Common.{List, [], false, refl, sym, subst, ◌≡◌, ◌∙◌}
use Rattle.std.proofs.lemmas.Result.{err_from_is_err_and}
use Rattle.ipdl_tree.specs.Views.{located, all_located}
use Rattle.ipdl_tree.specs.declared.tree.Tree.{Tree}
use Rattle.ipdl_term.specs.declared.step.Step.TheVariants.{Rev}
use Rattle.ipdl_term.specs.Steps.{step_of, rule_of}
use Rattle.ipdl_forms.specs.Faults.{TellsFirst}
use Rattle.ipdl_read.specs.Rules.{SpellsReversed, is_expression_word}
use Rattle.ipdl_read_terms.specs.Binders.{scope_of}
use Rattle.ipdl_forms.specs.Steps.{rev_faults}
use Rattle.ipdl_read_terms.proofs.Lists.{two_items}
use Rattle.ipdl_read.proofs.StepReading.{reversed_faults-list, rev_faults-rule, rev_faults-term, rev_faults-clean, SpellsRule-list}
use Rattle.ipdl_read.proofs.steps.read_rev.Goals as goal

pub returns-in_err-word-clause-first : goal.returns-in_err-word-clause-first
returns-in_err-word-clause-first c =
    let is = two_items c.args.operands.now c.inner-item.result c.term-item.result c.in-len2.len_at_least c.in-len2.len_below c.inner-item.is c.term-item.is in
    let S = scope_of c.args.scope.now in
    let A = located c.inner-item.result in
    let B = located c.term-item.result in
    let p = err_from_is_err_and c.from_residual.result c.from_residual.ensures.1 in
    let P : List Tree → Type 0 = λ ts. TellsFirst c.in_err-word.field-0.0 (rev_faults S c.args.list.0 (all_located ts)) in
    rw (p.1, p.2)
    (subst P (sym is) (rev_faults-rule c.in_err-word.field-0.0 S c.args.list.0 A B (c.in_err-word.ensures.first S)))

pub returns-in_err-path-clause-first : goal.returns-in_err-path-clause-first
returns-in_err-path-clause-first c =
    let is = two_items c.args.operands.now c.inner-item.result c.term-item.result c.in-len2.len_at_least c.in-len2.len_below c.inner-item.is c.term-item.is in
    let S = scope_of c.args.scope.now in
    let A = located c.inner-item.result in
    let B = located c.term-item.result in
    let e = reversed_faults-list S A c.in_ok-word.word.now c.inner-item.result.pos.0 (all_located c.in_ok-word.parts.now) c.in_ok-word.ensures.head c.in_ok-word.ensures.operands c.in_ok-word.ensures.offset c.in_ok-word.ensures.other in
    let p = err_from_is_err_and c.from_residual-in_err-path.result c.from_residual-in_err-path.ensures.1 in
    let P : List Tree → Type 0 = λ ts. TellsFirst c.in_err-path.field-0.0 (rev_faults S c.args.list.0 (all_located ts)) in
    rw (p.1, p.2)
    (subst P (sym is) (rev_faults-rule c.in_err-path.field-0.0 S c.args.list.0 A B (subst (TellsFirst c.in_err-path.field-0.0) (sym e) c.in_err-path.ensures.first)))

pub returns-in_err-term-clause-first : goal.returns-in_err-term-clause-first
returns-in_err-term-clause-first c =
    let is = two_items c.args.operands.now c.inner-item.result c.term-item.result c.in-len2.len_at_least c.in-len2.len_below c.inner-item.is c.term-item.is in
    let S = scope_of c.args.scope.now in
    let A = located c.inner-item.result in
    let B = located c.term-item.result in
    let e = reversed_faults-list S A c.in_ok-word.word.now c.inner-item.result.pos.0 (all_located c.in_ok-word.parts.now) c.in_ok-word.ensures.head c.in_ok-word.ensures.operands c.in_ok-word.ensures.offset c.in_ok-word.ensures.other in
    let p = err_from_is_err_and c.from_residual-in_err-term.result c.from_residual-in_err-term.ensures.1 in
    let P : List Tree → Type 0 = λ ts. TellsFirst c.in_err-term.field-0.0 (rev_faults S c.args.list.0 (all_located ts)) in
    rw (p.1, p.2)
    (subst P (sym is) (rev_faults-term c.in_err-term.field-0.0 S c.args.list.0 A B c.in_ok-word.word.now (rule_of c.in_ok-path.rule) c.in_ok-word.ensures.head c.in_ok-path.ensures.word (e ∙ c.in_ok-path.ensures.clean) c.in_err-term.ensures))

pub returns-clause-clean : goal.returns-clause-clean
returns-clause-clean c =
    let is = two_items c.args.operands.now c.inner-item.result c.term-item.result c.in-len2.len_at_least c.in-len2.len_below c.inner-item.is c.term-item.is in
    let S = scope_of c.args.scope.now in
    let A = located c.inner-item.result in
    let B = located c.term-item.result in
    let e = reversed_faults-list S A c.in_ok-word.word.now c.inner-item.result.pos.0 (all_located c.in_ok-word.parts.now) c.in_ok-word.ensures.head c.in_ok-word.ensures.operands c.in_ok-word.ensures.offset c.in_ok-word.ensures.other in
    let P : List Tree → Type 0 = λ ts. rev_faults S c.args.list.0 (all_located ts) ≡ [] in
    subst P (sym is) (rev_faults-clean S c.args.list.0 A B c.in_ok-word.word.now (rule_of c.in_ok-path.rule) c.in_ok-word.ensures.head c.in_ok-path.ensures.word (e ∙ c.in_ok-path.ensures.clean) c.in_ok-term.ensures.1)

pub returns-clause-spelled : goal.returns-clause-spelled
returns-clause-spelled c =
    let is = two_items c.args.operands.now c.inner-item.result c.term-item.result c.in-len2.len_at_least c.in-len2.len_below c.inner-item.is c.term-item.is in
    let S = scope_of c.args.scope.now in
    let A = located c.inner-item.result in
    let B = located c.term-item.result in
    let P : List Tree → Type 0 = λ ts. SpellsReversed S (step_of (Rev c.in_ok-path.path c.in_ok-path.rule c.in_ok-term.term)) (all_located ts) in
    subst P (sym is) (
      refl,
      SpellsRule-list S c.in_ok-path.path (rule_of c.in_ok-path.rule) A c.in_ok-word.word.now (all_located c.in_ok-word.parts.now) c.in_ok-word.ensures.head c.in_ok-word.ensures.operands c.in_ok-path.ensures.word c.in_ok-path.ensures.path c.in_ok-path.ensures.spelled,
      c.in_ok-term.ensures.0,
    )

pub read_term-requires : goal.read_term-requires
read_term-requires c =
    record { alone = c.requires.alone; other = subst (λ w. is_expression_word w ≡ false) (sym c.in_ok-path.ensures.word) c.in_ok-word.ensures.other }
