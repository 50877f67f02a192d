use Rattle.std.proofs.Common.{[], sym, subst, ◌∙◌}
use Rattle.std.proofs.lemmas.Result.{err_from_is_err_and}
use Rattle.ipdl_tree.specs.Views.{all_located}
use Rattle.ipdl_forms.specs.Faults.{TellsFirst}
use Rattle.ipdl_read.specs.Rules.{kinds_asked, word_list_faults}
use Rattle.ipdl_read_terms.specs.Binders.{scope_of}
use Rattle.ipdl_read.proofs.RuleForms.{kinds_asked-plain, kinds_asked-unknown, rule_faults-kinds, rule_faults-unknown}
use Rattle.ipdl_read.proofs.rules.read_plain.Goals as goal

pub returns-in_default-clause-first : goal.returns-in_default-clause-first
returns-in_default-clause-first c =
    let unknown = kinds_asked-unknown c.args.word.now c.requires.other (sym c.in_default.ensures.plain) in
    subst (λ fault. TellsFirst fault (word_list_faults (scope_of c.args.scope.now) c.args.list.0 (kinds_asked c.args.word.now) (all_located c.args.operands.now))) (sym c.not_a_form.ensures) (rule_faults-unknown (scope_of c.args.scope.now) c.args.list.0 c.args.word.now (all_located c.args.operands.now) unknown)

pub returns-in_err-path-clause-first : goal.returns-in_err-path-clause-first
returns-in_err-path-clause-first c =
    let p = err_from_is_err_and c.from_residual.result c.from_residual.ensures.1 in
    let kinds = kinds_asked-plain c.in-Some.rule c.args.word.now c.in-Some.ensures.word c.in-Some.ensures.alone in
    rw (p.1, p.2)
    (subst (TellsFirst c.in_err-path.field-0.0) (sym (rule_faults-kinds (scope_of c.args.scope.now) c.args.list.0 c.args.word.now [] (all_located c.args.operands.now) kinds)) c.in_err-path.ensures.first)

pub returns-clause-clean : goal.returns-clause-clean
returns-clause-clean c =
    let kinds = kinds_asked-plain c.in-Some.rule c.args.word.now c.in-Some.ensures.word c.in-Some.ensures.alone in
    rule_faults-kinds (scope_of c.args.scope.now) c.args.list.0 c.args.word.now [] (all_located c.args.operands.now) kinds ∙ c.in_ok-path.ensures.clean
