use Rattle.std.proofs.Common.{◌≡◌, ◌+◌, ◌⊎◌, inl, inr, [], refl, ap, ap₂, sym, ◌∙◌, subst}
use Rattle.ipdl_term.specs.Terms.{application, exclusive, conjunction, concatenation, segment, equality, selection}
use Rattle.ipdl_term.specs.Views.{expression_of}
use Rattle.ipdl_typing.specs.Answers.{TellsFirstFailure, AnswersWidth}
use Rattle.ipdl_typing.specs.BinderWidths.{widths_of}
use Rattle.ipdl_typing.specs.Checks.{has_width, expression_width, expression_failures}
use Rattle.ipdl_typing.specs.Places.{path_of}
use Rattle.ipdl_typing.specs.Signatures.{symbol_of, signature_of}
use Rattle.ipdl_typing.proofs.ExpressionChecks.{symbol_at, application_rest, application_width, wanted_last, operand_first, operand_rest, concatenation_first, concatenation_second, concatenation_last, segment_inner, segment_last, operands_of, selection_test, selection_rest}
use Rattle.ipdl_typing.proofs.First.{TellsFirstFailure-in_front, AnswersWidth-error}
use Rattle.ipdl_typing.proofs.expressions.+expression.Goals as goal

-- ---- a wanted width

pub expect_expr-returns-in_err-got : goal.expect_expr-returns-in_err-got
expect_expr-returns-in_err-got t c =
    AnswersWidth-error c.from_residual.result c.in_err-got.field-0.0 _ _ c.from_residual.ensures.1 (TellsFirstFailure-in_front c.in_err-got.field-0.0 (expression_failures (signature_of c.args.sig.now) (widths_of c.args.binders.now) (path_of c.args.place.now) (expression_of c.args.term.now)) (has_width (signature_of c.args.sig.now) (widths_of c.args.binders.now) (path_of c.args.place.now) (expression_of c.args.term.now) c.args.want) c.in_err-got.ensures)

pub expect_expr-returns-in_err-expect_width : goal.expect_expr-returns-in_err-expect_width
expect_expr-returns-in_err-expect_width t c =
    AnswersWidth-error c.from_residual-in_err-expect_width.result c.in_err-expect_width.field-0.0 _ _ c.from_residual-in_err-expect_width.ensures.1 (wanted_last (TellsFirstFailure c.in_err-expect_width.field-0.0) (signature_of c.args.sig.now) (widths_of c.args.binders.now) (path_of c.args.place.now) (expression_of c.args.term.now) c.args.want c.in_ok-got.got c.in_ok-got.ensures c.in_err-expect_width.ensures)

pub expect_expr-returns : goal.expect_expr-returns
expect_expr-returns t c = (
  refl,
  wanted_last (λ fs. fs ≡ []) (signature_of c.args.sig.now) (widths_of c.args.binders.now) (path_of c.args.place.now) (expression_of c.args.term.now) c.args.want c.in_ok-got.got c.in_ok-got.ensures c.in_ok-expect_width.ensures,
)

-- ---- a symbol at an argument

pub expr_width-returns-in_err-expect_expr-in-Apply :
    goal.expr_width-returns-in_err-expect_expr-in-Apply
expr_width-returns-in_err-expect_expr-in-Apply t c =
    let is = ap expression_of c.in-Apply.is ∙ ap (λ e. application c.in-Apply.number (expression_of e)) (sym c.deref.ensures) in
    let at = symbol_at c.args.sig.now c.in-Apply.number c.in-Some-symbol.symbol.now c.in-Some-symbol.ensures.value in
    AnswersWidth-error c.from_residual.result c.in_err-expect_expr-in-Apply.field-0.0 _ _ c.from_residual.ensures.1 (application_rest (TellsFirstFailure c.in_err-expect_expr-in-Apply.field-0.0) (signature_of c.args.sig.now) (widths_of c.args.binders.now) (path_of c.args.place.now) (expression_of c.args.term.now) c.in-Apply.number (expression_of c.deref.result.now) (symbol_of c.in-Some-symbol.symbol.now) is at c.in_err-expect_expr-in-Apply.ensures)

pub expr_width-returns-in_ok-expect_expr-in-Apply :
    goal.expr_width-returns-in_ok-expect_expr-in-Apply
expr_width-returns-in_ok-expect_expr-in-Apply t c =
    let is = ap expression_of c.in-Apply.is ∙ ap (λ e. application c.in-Apply.number (expression_of e)) (sym c.deref.ensures) in
    let at = symbol_at c.args.sig.now c.in-Apply.number c.in-Some-symbol.symbol.now c.in-Some-symbol.ensures.value in (
      application_width (signature_of c.args.sig.now) (widths_of c.args.binders.now) (expression_of c.args.term.now) c.in-Apply.number (expression_of c.deref.result.now) (symbol_of c.in-Some-symbol.symbol.now) is at,
      application_rest (λ fs. fs ≡ []) (signature_of c.args.sig.now) (widths_of c.args.binders.now) (path_of c.args.place.now) (expression_of c.args.term.now) c.in-Apply.number (expression_of c.deref.result.now) (symbol_of c.in-Some-symbol.symbol.now) is at c.in_ok-expect_expr-in-Apply.ensures.1,
    )

-- ---- two operands

pub expr_width-returns-in_err-want-in-Xor : goal.expr_width-returns-in_err-want-in-Xor
expr_width-returns-in_err-want-in-Xor t c =
    let shape : (expression_of c.args.term.now ≡ exclusive (expression_of c.deref-in-Xor.result.now) (expression_of c.in-Xor.b.value)) ⊎ (expression_of c.args.term.now ≡ conjunction (expression_of c.deref-in-Xor.result.now) (expression_of c.in-Xor.b.value)) = elim c.in-Xor.is [
      | inl e ↦ inl (ap expression_of e ∙ ap (λ a. exclusive (expression_of a) (expression_of c.in-Xor.b.value)) (sym c.deref-in-Xor.ensures))
      | inr e ↦ inr (ap expression_of e ∙ ap (λ a. conjunction (expression_of a) (expression_of c.in-Xor.b.value)) (sym c.deref-in-Xor.ensures))
    ] in
    let both = operands_of (signature_of c.args.sig.now) (widths_of c.args.binders.now) (path_of c.args.place.now) (expression_of c.args.term.now) (expression_of c.deref-in-Xor.result.now) (expression_of c.in-Xor.b.value) shape in
    AnswersWidth-error c.from_residual-in_err-want-in-Xor.result c.in_err-want-in-Xor.field-0.0 _ _ c.from_residual-in_err-want-in-Xor.ensures.1 (subst (TellsFirstFailure c.in_err-want-in-Xor.field-0.0) (sym both.0) (operand_first c.in_err-want-in-Xor.field-0.0 (signature_of c.args.sig.now) (widths_of c.args.binders.now) (path_of c.args.place.now) 0 1 (expression_of c.deref-in-Xor.result.now) (expression_of c.in-Xor.b.value) c.in_err-want-in-Xor.ensures))

pub expr_width-returns-in_ok-want-in-Xor : goal.expr_width-returns-in_ok-want-in-Xor
expr_width-returns-in_ok-want-in-Xor t c =
    let shape : (expression_of c.args.term.now ≡ exclusive (expression_of c.deref-in-Xor.result.now) (expression_of c.deref-in-Xor-2.result.now)) ⊎ (expression_of c.args.term.now ≡ conjunction (expression_of c.deref-in-Xor.result.now) (expression_of c.deref-in-Xor-2.result.now)) = elim c.in-Xor.is [
      | inl e ↦ inl (ap expression_of e ∙ ap₂ (λ a b. exclusive (expression_of a) (expression_of b)) (sym c.deref-in-Xor.ensures) (sym c.deref-in-Xor-2.ensures))
      | inr e ↦ inr (ap expression_of e ∙ ap₂ (λ a b. conjunction (expression_of a) (expression_of b)) (sym c.deref-in-Xor.ensures) (sym c.deref-in-Xor-2.ensures))
    ] in
    let both = operands_of (signature_of c.args.sig.now) (widths_of c.args.binders.now) (path_of c.args.place.now) (expression_of c.args.term.now) (expression_of c.deref-in-Xor.result.now) (expression_of c.deref-in-Xor-2.result.now) shape in
    let r = c.expect_expr-in-Xor.result in
    let want = c.in_ok-want-in-Xor.want in
    subst (λ v. AnswersWidth r v (expression_failures (signature_of c.args.sig.now) (widths_of c.args.binders.now) (path_of c.args.place.now) (expression_of c.args.term.now))) (c.in_ok-want-in-Xor.ensures.0 ∙ sym both.1) (subst (AnswersWidth r want) (sym both.0) (operand_rest (AnswersWidth r want) (signature_of c.args.sig.now) (widths_of c.args.binders.now) (path_of c.args.place.now) 0 1 (expression_of c.deref-in-Xor.result.now) (expression_of c.deref-in-Xor-2.result.now) want c.in_ok-want-in-Xor.ensures c.expect_expr-in-Xor.ensures))

pub expr_width-returns-in_err-want-in-Same : goal.expr_width-returns-in_err-want-in-Same
expr_width-returns-in_err-want-in-Same t c =
    let is = ap expression_of c.in-Same.is ∙ ap (λ a. equality (expression_of a) (expression_of c.in-Same.b.value)) (sym c.deref-in-Same.ensures) in
    AnswersWidth-error c.from_residual-in_err-want-in-Same.result c.in_err-want-in-Same.field-0.0 _ _ c.from_residual-in_err-want-in-Same.ensures.1 (subst (λ e. TellsFirstFailure c.in_err-want-in-Same.field-0.0 (expression_failures (signature_of c.args.sig.now) (widths_of c.args.binders.now) (path_of c.args.place.now) e)) (sym is) (operand_first c.in_err-want-in-Same.field-0.0 (signature_of c.args.sig.now) (widths_of c.args.binders.now) (path_of c.args.place.now) 0 1 (expression_of c.deref-in-Same.result.now) (expression_of c.in-Same.b.value) c.in_err-want-in-Same.ensures))

pub expr_width-returns-in_err-expect_expr-in-Same : goal.expr_width-returns-in_err-expect_expr-in-Same
expr_width-returns-in_err-expect_expr-in-Same t c =
    let is = ap expression_of c.in-Same.is ∙ ap₂ (λ a b. equality (expression_of a) (expression_of b)) (sym c.deref-in-Same.ensures) (sym c.deref-in-Same-2.ensures) in
    AnswersWidth-error c.from_residual-in_err-expect_expr-in-Same.result c.in_err-expect_expr-in-Same.field-0.0 _ _ c.from_residual-in_err-expect_expr-in-Same.ensures.1 (subst (λ e. TellsFirstFailure c.in_err-expect_expr-in-Same.field-0.0 (expression_failures (signature_of c.args.sig.now) (widths_of c.args.binders.now) (path_of c.args.place.now) e)) (sym is) (operand_rest (TellsFirstFailure c.in_err-expect_expr-in-Same.field-0.0) (signature_of c.args.sig.now) (widths_of c.args.binders.now) (path_of c.args.place.now) 0 1 (expression_of c.deref-in-Same.result.now) (expression_of c.deref-in-Same-2.result.now) c.in_ok-want-in-Same.want c.in_ok-want-in-Same.ensures c.in_err-expect_expr-in-Same.ensures))

pub expr_width-returns-in_ok-expect_expr-in-Same : goal.expr_width-returns-in_ok-expect_expr-in-Same
expr_width-returns-in_ok-expect_expr-in-Same t c =
    let is = ap expression_of c.in-Same.is ∙ ap₂ (λ a b. equality (expression_of a) (expression_of b)) (sym c.deref-in-Same.ensures) (sym c.deref-in-Same-2.ensures) in (
      sym (ap (expression_width (signature_of c.args.sig.now) (widths_of c.args.binders.now)) is),
      ap (expression_failures (signature_of c.args.sig.now) (widths_of c.args.binders.now) (path_of c.args.place.now)) is ∙ operand_rest (λ fs. fs ≡ []) (signature_of c.args.sig.now) (widths_of c.args.binders.now) (path_of c.args.place.now) 0 1 (expression_of c.deref-in-Same.result.now) (expression_of c.deref-in-Same-2.result.now) c.in_ok-want-in-Same.want c.in_ok-want-in-Same.ensures c.in_ok-expect_expr-in-Same.ensures.1,
    )

pub expr_width-returns-in_err-expect_expr-in-Mux : goal.expr_width-returns-in_err-expect_expr-in-Mux
expr_width-returns-in_err-expect_expr-in-Mux t c =
    let is = ap expression_of c.in-Mux.is ∙ ap (λ e. selection (expression_of e) (expression_of c.in-Mux.a.value) (expression_of c.in-Mux.b.value)) (sym c.deref-in-Mux.ensures) in
    AnswersWidth-error c.from_residual-in_err-expect_expr-in-Mux.result c.in_err-expect_expr-in-Mux.field-0.0 _ _ c.from_residual-in_err-expect_expr-in-Mux.ensures.1 (selection_test c.in_err-expect_expr-in-Mux.field-0.0 (signature_of c.args.sig.now) (widths_of c.args.binders.now) (path_of c.args.place.now) (expression_of c.args.term.now) (expression_of c.deref-in-Mux.result.now) (expression_of c.in-Mux.a.value) (expression_of c.in-Mux.b.value) is c.in_err-expect_expr-in-Mux.ensures)

pub expr_width-returns-in_err-want-in-Mux : goal.expr_width-returns-in_err-want-in-Mux
expr_width-returns-in_err-want-in-Mux t c =
    let is = ap expression_of c.in-Mux.is ∙ ap (λ e. selection (expression_of e) (expression_of c.in-Mux.a.value) (expression_of c.in-Mux.b.value)) (sym c.deref-in-Mux.ensures) ∙ ap (λ a. selection (expression_of c.deref-in-Mux.result.now) (expression_of a) (expression_of c.in-Mux.b.value)) (sym c.deref-in-Mux-2.ensures) in
    AnswersWidth-error c.from_residual-in_err-want-in-Mux.result c.in_err-want-in-Mux.field-0.0 _ _ c.from_residual-in_err-want-in-Mux.ensures.1 (selection_rest (TellsFirstFailure c.in_err-want-in-Mux.field-0.0) (signature_of c.args.sig.now) (widths_of c.args.binders.now) (path_of c.args.place.now) (expression_of c.args.term.now) (expression_of c.deref-in-Mux.result.now) (expression_of c.deref-in-Mux-2.result.now) (expression_of c.in-Mux.b.value) is c.in_ok-expect_expr-in-Mux.ensures.1 (operand_first c.in_err-want-in-Mux.field-0.0 (signature_of c.args.sig.now) (widths_of c.args.binders.now) (path_of c.args.place.now) 1 2 (expression_of c.deref-in-Mux-2.result.now) (expression_of c.in-Mux.b.value) c.in_err-want-in-Mux.ensures))

pub expr_width-returns-in_ok-want-in-Mux : goal.expr_width-returns-in_ok-want-in-Mux
expr_width-returns-in_ok-want-in-Mux t c =
    let is = ap expression_of c.in-Mux.is ∙ ap (λ e. selection (expression_of e) (expression_of c.in-Mux.a.value) (expression_of c.in-Mux.b.value)) (sym c.deref-in-Mux.ensures) ∙ ap₂ (λ a b. selection (expression_of c.deref-in-Mux.result.now) (expression_of a) (expression_of b)) (sym c.deref-in-Mux-2.ensures) (sym c.deref-in-Mux-3.ensures) in
    let r = c.expect_expr-in-Mux-2.result in
    let wide = c.in_ok-want-in-Mux.ensures.0 ∙ sym (ap (expression_width (signature_of c.args.sig.now) (widths_of c.args.binders.now)) is) in
    subst (λ v. AnswersWidth r v (expression_failures (signature_of c.args.sig.now) (widths_of c.args.binders.now) (path_of c.args.place.now) (expression_of c.args.term.now))) wide (selection_rest (AnswersWidth r c.in_ok-want-in-Mux.want) (signature_of c.args.sig.now) (widths_of c.args.binders.now) (path_of c.args.place.now) (expression_of c.args.term.now) (expression_of c.deref-in-Mux.result.now) (expression_of c.deref-in-Mux-2.result.now) (expression_of c.deref-in-Mux-3.result.now) is c.in_ok-expect_expr-in-Mux.ensures.1 (operand_rest (AnswersWidth r c.in_ok-want-in-Mux.want) (signature_of c.args.sig.now) (widths_of c.args.binders.now) (path_of c.args.place.now) 1 2 (expression_of c.deref-in-Mux-2.result.now) (expression_of c.deref-in-Mux-3.result.now) c.in_ok-want-in-Mux.want c.in_ok-want-in-Mux.ensures c.expect_expr-in-Mux-2.ensures))

-- ---- concatenations and segments

pub expr_width-returns-in_err-high-in-Cat : goal.expr_width-returns-in_err-high-in-Cat
expr_width-returns-in_err-high-in-Cat t c =
    let is = ap expression_of c.in-Cat.is ∙ ap (λ a. concatenation (expression_of a) (expression_of c.in-Cat.b.value)) (sym c.deref-in-Cat.ensures) in
    AnswersWidth-error c.from_residual-in_err-high-in-Cat.result c.in_err-high-in-Cat.field-0.0 _ _ c.from_residual-in_err-high-in-Cat.ensures.1 (concatenation_first c.in_err-high-in-Cat.field-0.0 (signature_of c.args.sig.now) (widths_of c.args.binders.now) (path_of c.args.place.now) (expression_of c.args.term.now) (expression_of c.deref-in-Cat.result.now) (expression_of c.in-Cat.b.value) is c.in_err-high-in-Cat.ensures)

pub expr_width-returns-in_err-low-in-Cat : goal.expr_width-returns-in_err-low-in-Cat
expr_width-returns-in_err-low-in-Cat t c =
    let is = ap expression_of c.in-Cat.is ∙ ap₂ (λ a b. concatenation (expression_of a) (expression_of b)) (sym c.deref-in-Cat.ensures) (sym c.deref-in-Cat-2.ensures) in
    AnswersWidth-error c.from_residual-in_err-low-in-Cat.result c.in_err-low-in-Cat.field-0.0 _ _ c.from_residual-in_err-low-in-Cat.ensures.1 (concatenation_second c.in_err-low-in-Cat.field-0.0 (signature_of c.args.sig.now) (widths_of c.args.binders.now) (path_of c.args.place.now) (expression_of c.args.term.now) (expression_of c.deref-in-Cat.result.now) (expression_of c.deref-in-Cat-2.result.now) is c.in_ok-high-in-Cat.ensures.1 c.in_err-low-in-Cat.ensures)

pub expr_width-returns-in_ok-low-in-Cat : goal.expr_width-returns-in_ok-low-in-Cat
expr_width-returns-in_ok-low-in-Cat t c =
    let is = ap expression_of c.in-Cat.is ∙ ap₂ (λ a b. concatenation (expression_of a) (expression_of b)) (sym c.deref-in-Cat.ensures) (sym c.deref-in-Cat-2.ensures) in
    let r = c.expect_sum.result in
    let wide = ap₂ (λ v w. v + w) c.in_ok-high-in-Cat.ensures.0 c.in_ok-low-in-Cat.ensures.0 ∙ sym (ap (expression_width (signature_of c.args.sig.now) (widths_of c.args.binders.now)) is) in
    subst (λ v. AnswersWidth r v (expression_failures (signature_of c.args.sig.now) (widths_of c.args.binders.now) (path_of c.args.place.now) (expression_of c.args.term.now))) wide (concatenation_last (AnswersWidth r (c.in_ok-high-in-Cat.high + c.in_ok-low-in-Cat.low)) (signature_of c.args.sig.now) (widths_of c.args.binders.now) (path_of c.args.place.now) (expression_of c.args.term.now) (expression_of c.deref-in-Cat.result.now) (expression_of c.deref-in-Cat-2.result.now) c.in_ok-high-in-Cat.high c.in_ok-low-in-Cat.low is c.in_ok-high-in-Cat.ensures c.in_ok-low-in-Cat.ensures c.expect_sum.ensures)

pub expr_width-returns-in_err-got-in-Cut : goal.expr_width-returns-in_err-got-in-Cut
expr_width-returns-in_err-got-in-Cut t c =
    let is = ap expression_of c.in-Cut.is ∙ ap (λ a. segment c.in-Cut.from c.in-Cut.count (expression_of a)) (sym c.deref-in-Cut.ensures) in
    AnswersWidth-error c.from_residual-in_err-got-in-Cut.result c.in_err-got-in-Cut.field-0.0 _ _ c.from_residual-in_err-got-in-Cut.ensures.1 (segment_inner c.in_err-got-in-Cut.field-0.0 (signature_of c.args.sig.now) (widths_of c.args.binders.now) (path_of c.args.place.now) (expression_of c.args.term.now) (expression_of c.deref-in-Cut.result.now) c.in-Cut.from c.in-Cut.count is c.in_err-got-in-Cut.ensures)

pub expr_width-returns-in_err-expect_within-in-Cut : goal.expr_width-returns-in_err-expect_within-in-Cut
expr_width-returns-in_err-expect_within-in-Cut t c =
    let is = ap expression_of c.in-Cut.is ∙ ap (λ a. segment c.in-Cut.from c.in-Cut.count (expression_of a)) (sym c.deref-in-Cut.ensures) in
    AnswersWidth-error c.from_residual-in_err-expect_within-in-Cut.result c.in_err-expect_within-in-Cut.field-0.0 _ _ c.from_residual-in_err-expect_within-in-Cut.ensures.1 (segment_last (TellsFirstFailure c.in_err-expect_within-in-Cut.field-0.0) (signature_of c.args.sig.now) (widths_of c.args.binders.now) (path_of c.args.place.now) (expression_of c.args.term.now) (expression_of c.deref-in-Cut.result.now) c.in-Cut.from c.in-Cut.count c.in_ok-got-in-Cut.got is c.in_ok-got-in-Cut.ensures c.in_err-expect_within-in-Cut.ensures)

pub expr_width-returns-in_ok-expect_within-in-Cut : goal.expr_width-returns-in_ok-expect_within-in-Cut
expr_width-returns-in_ok-expect_within-in-Cut t c =
    let is = ap expression_of c.in-Cut.is ∙ ap (λ a. segment c.in-Cut.from c.in-Cut.count (expression_of a)) (sym c.deref-in-Cut.ensures) in (
      sym (ap (expression_width (signature_of c.args.sig.now) (widths_of c.args.binders.now)) is),
      segment_last (λ fs. fs ≡ []) (signature_of c.args.sig.now) (widths_of c.args.binders.now) (path_of c.args.place.now) (expression_of c.args.term.now) (expression_of c.deref-in-Cut.result.now) c.in-Cut.from c.in-Cut.count c.in_ok-got-in-Cut.got is c.in_ok-got-in-Cut.ensures c.in_ok-expect_within-in-Cut.ensures,
    )
