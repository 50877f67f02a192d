use Rattle.std.proofs.Common.{◌≡◌, [], ap, ap₂, sym, ◌∙◌, subst}
use Rattle.ipdl_term.specs.Terms.{branching, binding}
use Rattle.ipdl_term.specs.Views.{expression_of, reaction_of}
use Rattle.ipdl_typing.specs.Answers.{TellsFirstFailure, AnswersWidth}
use Rattle.ipdl_typing.specs.BinderWidths.{widths_of}
use Rattle.ipdl_typing.specs.Checks.{reaction_width, reaction_failures}
use Rattle.ipdl_typing.specs.Places.{path_of}
use Rattle.ipdl_typing.specs.Signatures.{signature_of}
use Rattle.ipdl_typing.specs.Visible.{scope_in}
use Rattle.ipdl_typing.proofs.First.{AnswersWidth-error}
use Rattle.ipdl_typing.proofs.ReactionChecks.{branching_test, branching_bit, branching_left, branching_right, branching_last, binding_first, binding_width, binding_last}
use Rattle.ipdl_typing.proofs.reactions.+react_width.Goals as goal

pub returns-in_err-test-in-Cond : goal.returns-in_err-test-in-Cond
returns-in_err-test-in-Cond t c =
    let is = ap reaction_of c.in-Cond.is in
    AnswersWidth-error c.from_residual-in_err-test-in-Cond.result c.in_err-test-in-Cond.field-0.0 _ _ c.from_residual-in_err-test-in-Cond.ensures.1 (branching_test c.in_err-test-in-Cond.field-0.0 (signature_of c.args.sig.now) (scope_in c.args.visible.now) (widths_of c.args.binders.now) (path_of c.args.place.now) (reaction_of c.args.term.now) (expression_of c.in-Cond.e) (reaction_of c.in-Cond.r.value) (reaction_of c.in-Cond.s.value) is c.in_err-test-in-Cond.ensures)

pub returns-in_err-expect_width-in-Cond : goal.returns-in_err-expect_width-in-Cond
returns-in_err-expect_width-in-Cond t c =
    let is = ap reaction_of c.in-Cond.is in
    AnswersWidth-error c.from_residual-in_err-expect_width-in-Cond.result c.in_err-expect_width-in-Cond.field-0.0 _ _ c.from_residual-in_err-expect_width-in-Cond.ensures.1 (branching_bit c.in_err-expect_width-in-Cond.field-0.0 (signature_of c.args.sig.now) (scope_in c.args.visible.now) (widths_of c.args.binders.now) (path_of c.args.place.now) (reaction_of c.args.term.now) (expression_of c.in-Cond.e) (reaction_of c.in-Cond.r.value) (reaction_of c.in-Cond.s.value) c.in_ok-test-in-Cond.test is c.in_ok-test-in-Cond.ensures c.in_err-expect_width-in-Cond.ensures)

pub returns-in_err-want-in-Cond : goal.returns-in_err-want-in-Cond
returns-in_err-want-in-Cond t c =
    let is = ap reaction_of c.in-Cond.is ∙ ap (λ r. branching (expression_of c.in-Cond.e) (reaction_of r) (reaction_of c.in-Cond.s.value)) (sym c.deref.ensures) in
    AnswersWidth-error c.from_residual-in_err-want-in-Cond.result c.in_err-want-in-Cond.field-0.0 _ _ c.from_residual-in_err-want-in-Cond.ensures.1 (branching_left c.in_err-want-in-Cond.field-0.0 (signature_of c.args.sig.now) (scope_in c.args.visible.now) (widths_of c.args.binders.now) (path_of c.args.place.now) (reaction_of c.args.term.now) (expression_of c.in-Cond.e) (reaction_of c.deref.result.now) (reaction_of c.in-Cond.s.value) c.in_ok-test-in-Cond.test is c.in_ok-test-in-Cond.ensures c.in_ok-expect_width-in-Cond.ensures c.in_err-want-in-Cond.ensures)

pub returns-in_err-got-in-Cond : goal.returns-in_err-got-in-Cond
returns-in_err-got-in-Cond t c =
    let is = ap reaction_of c.in-Cond.is ∙ ap₂ (λ r s. branching (expression_of c.in-Cond.e) (reaction_of r) (reaction_of s)) (sym c.deref.ensures) (sym c.deref-in-Cond.ensures) in
    AnswersWidth-error c.from_residual-in_err-got-in-Cond.result c.in_err-got-in-Cond.field-0.0 _ _ c.from_residual-in_err-got-in-Cond.ensures.1 (branching_right c.in_err-got-in-Cond.field-0.0 (signature_of c.args.sig.now) (scope_in c.args.visible.now) (widths_of c.args.binders.now) (path_of c.args.place.now) (reaction_of c.args.term.now) (expression_of c.in-Cond.e) (reaction_of c.deref.result.now) (reaction_of c.deref-in-Cond.result.now) c.in_ok-test-in-Cond.test is c.in_ok-test-in-Cond.ensures c.in_ok-expect_width-in-Cond.ensures c.in_ok-want-in-Cond.ensures.1 c.in_err-got-in-Cond.ensures)

pub returns-in_err-expect_width-in-Cond-2 : goal.returns-in_err-expect_width-in-Cond-2
returns-in_err-expect_width-in-Cond-2 t c =
    let is = ap reaction_of c.in-Cond.is ∙ ap₂ (λ r s. branching (expression_of c.in-Cond.e) (reaction_of r) (reaction_of s)) (sym c.deref.ensures) (sym c.deref-in-Cond.ensures) in
    AnswersWidth-error c.from_residual-in_err-expect_width-in-Cond-2.result c.in_err-expect_width-in-Cond-2.field-0.0 _ _ c.from_residual-in_err-expect_width-in-Cond-2.ensures.1 (branching_last (TellsFirstFailure c.in_err-expect_width-in-Cond-2.field-0.0) (signature_of c.args.sig.now) (scope_in c.args.visible.now) (widths_of c.args.binders.now) (path_of c.args.place.now) (reaction_of c.args.term.now) (expression_of c.in-Cond.e) (reaction_of c.deref.result.now) (reaction_of c.deref-in-Cond.result.now) c.in_ok-test-in-Cond.test c.in_ok-want-in-Cond.want c.in_ok-got-in-Cond.got is c.in_ok-test-in-Cond.ensures c.in_ok-expect_width-in-Cond.ensures c.in_ok-want-in-Cond.ensures c.in_ok-got-in-Cond.ensures c.in_err-expect_width-in-Cond-2.ensures)

pub returns-in_ok-expect_width-in-Cond-2 : goal.returns-in_ok-expect_width-in-Cond-2
returns-in_ok-expect_width-in-Cond-2 t c =
    let is = ap reaction_of c.in-Cond.is ∙ ap₂ (λ r s. branching (expression_of c.in-Cond.e) (reaction_of r) (reaction_of s)) (sym c.deref.ensures) (sym c.deref-in-Cond.ensures) in (
      c.in_ok-want-in-Cond.ensures.0 ∙ sym (ap (reaction_width (signature_of c.args.sig.now) (scope_in c.args.visible.now) (widths_of c.args.binders.now)) is),
      branching_last (λ fs. fs ≡ []) (signature_of c.args.sig.now) (scope_in c.args.visible.now) (widths_of c.args.binders.now) (path_of c.args.place.now) (reaction_of c.args.term.now) (expression_of c.in-Cond.e) (reaction_of c.deref.result.now) (reaction_of c.deref-in-Cond.result.now) c.in_ok-test-in-Cond.test c.in_ok-want-in-Cond.want c.in_ok-got-in-Cond.got is c.in_ok-test-in-Cond.ensures c.in_ok-expect_width-in-Cond.ensures c.in_ok-want-in-Cond.ensures c.in_ok-got-in-Cond.ensures c.in_ok-expect_width-in-Cond-2.ensures,
    )

pub returns-in_err-got-in-Bind : goal.returns-in_err-got-in-Bind
returns-in_err-got-in-Bind t c =
    let is = ap reaction_of c.in-Bind.is ∙ ap (λ r. binding c.in-Bind.width (reaction_of r) (reaction_of c.in-Bind.s.value)) (sym c.deref-in-Bind.ensures) in
    AnswersWidth-error c.from_residual-in_err-got-in-Bind.result c.in_err-got-in-Bind.field-0.0 _ _ c.from_residual-in_err-got-in-Bind.ensures.1 (binding_first c.in_err-got-in-Bind.field-0.0 (signature_of c.args.sig.now) (scope_in c.args.visible.now) (widths_of c.args.binders.now) (path_of c.args.place.now) (reaction_of c.args.term.now) c.in-Bind.width (reaction_of c.deref-in-Bind.result.now) (reaction_of c.in-Bind.s.value) is c.in_err-got-in-Bind.ensures)

pub returns-in_err-expect_width-in-Bind : goal.returns-in_err-expect_width-in-Bind
returns-in_err-expect_width-in-Bind t c =
    let is = ap reaction_of c.in-Bind.is ∙ ap (λ r. binding c.in-Bind.width (reaction_of r) (reaction_of c.in-Bind.s.value)) (sym c.deref-in-Bind.ensures) in
    AnswersWidth-error c.from_residual-in_err-expect_width-in-Bind.result c.in_err-expect_width-in-Bind.field-0.0 _ _ c.from_residual-in_err-expect_width-in-Bind.ensures.1 (binding_width c.in_err-expect_width-in-Bind.field-0.0 (signature_of c.args.sig.now) (scope_in c.args.visible.now) (widths_of c.args.binders.now) (path_of c.args.place.now) (reaction_of c.args.term.now) c.in-Bind.width c.in_ok-got-in-Bind.got (reaction_of c.deref-in-Bind.result.now) (reaction_of c.in-Bind.s.value) is c.in_ok-got-in-Bind.ensures c.in_err-expect_width-in-Bind.ensures)

pub returns-in_ok-expect_width-in-Bind : goal.returns-in_ok-expect_width-in-Bind
returns-in_ok-expect_width-in-Bind t c =
    let is = ap reaction_of c.in-Bind.is ∙ ap₂ (λ r s. binding c.in-Bind.width (reaction_of r) (reaction_of s)) (sym c.deref-in-Bind.ensures) (sym c.deref-in-Bind-2.ensures) in
    let r = c.react_width-in-Bind-2.result in
    let wide = sym (ap (reaction_width (signature_of c.args.sig.now) (scope_in c.args.visible.now) (widths_of c.args.binders.now)) is) in
    subst (λ v. AnswersWidth r v (reaction_failures (signature_of c.args.sig.now) (scope_in c.args.visible.now) (widths_of c.args.binders.now) (path_of c.args.place.now) (reaction_of c.args.term.now))) wide (binding_last (AnswersWidth r _) (signature_of c.args.sig.now) (scope_in c.args.visible.now) (widths_of c.args.binders.now) (path_of c.args.place.now) (reaction_of c.args.term.now) c.in-Bind.width c.in_ok-got-in-Bind.got (reaction_of c.deref-in-Bind.result.now) (reaction_of c.deref-in-Bind-2.result.now) is c.in_ok-got-in-Bind.ensures c.in_ok-expect_width-in-Bind.ensures c.react_width-in-Bind-2.ensures)
