use Rattle.std.proofs.Common.{sym, ap, subst, ◌∙◌}
use Rattle.std.proofs.lemmas.Result.{err_from_is_err_and}
use Rattle.ipdl_tree.specs.Views.{located}
use Rattle.ipdl_forms.specs.declared.fault.FormCause.TheVariants.{NotAForm}
use Rattle.ipdl_forms.specs.Faults.{TellsFirst, form_fault}
use Rattle.ipdl_term.specs.Rules.{heading_named}
use Rattle.ipdl_forms.specs.Steps.{reversed_faults, first_name}
use Rattle.ipdl_read.proofs.StepReading.{reversed_faults-headless, reversed_faults-expression}
use Rattle.ipdl_read.proofs.steps.reversible_list.Goals as goal

pub returns-in_err-word-clause-first : goal.returns-in_err-word-clause-first
returns-in_err-word-clause-first c =
    let p = err_from_is_err_and c.from_residual.result c.from_residual.ensures.1 in
    rw (p.1, p.2)
    (λ scope. subst (λ fault. TellsFirst fault (reversed_faults scope (heading_named (first_name (located c.args.tree.now))) (located c.args.tree.now))) (ap (form_fault NotAForm) c.headed_list.ensures.offset ∙ sym c.in_err-word.ensures.first) (reversed_faults-headless scope (located c.args.tree.now) c.in_err-word.ensures.headless))

pub returns-then-is_expression_word-clause-first : goal.returns-then-is_expression_word-clause-first
returns-then-is_expression_word-clause-first c scope =
    subst (λ fault. TellsFirst fault (reversed_faults scope (heading_named (first_name (located c.args.tree.now))) (located c.args.tree.now))) (ap (form_fault NotAForm) c.headed_list.ensures.offset ∙ sym c.not_a_form.ensures) (reversed_faults-expression scope (located c.args.tree.now) c.in_ok-word.word.now c.in_ok-word.ensures.head (sym c.is_expression_word.ensures ∙ c.if-is_expression_word.true))
