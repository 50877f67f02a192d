use Rattle.std.proofs.Common.{◌≡◌, ◌∙◌, ap, length, sym, arith}
use Rattle.std.specs.List.{list_any}
use Rattle.std.specs.Prelude.{nat_eq}
use Rattle.std.proofs.lemmas.Result.{IfOk-weaker}
use Rattle.ipdl_linear.proofs.ZeroTests.{are_zero-some_one, are_zero-no_form, are_zero-one, are_zero-several}
use Rattle.ipdl_linear.proofs.numbering.Numbering.are_zero.Goals as goal

pub returns-then-contains-clause-form : goal.returns-then-contains-clause-form
returns-then-contains-clause-form c =
    are_zero-some_one c.args.self.now c.args.forms.items c.leave_out_empty-forms.result.items c.leave_out_empty-forms.ensures
    (ap (list_any (λ n. nat_eq n 2)) (sym c.as_slice.ensures.value) ∙ sym c.contains.ensures.value ∙ c.if-contains.true)

pub returns-in-0-clause-form : goal.returns-in-0-clause-form
returns-in-0-clause-form c =
    are_zero-no_form c.args.self.now c.args.forms.items c.leave_out_empty-forms.result.items c.leave_out_empty-forms.ensures
    (sym (ap length c.as_slice.ensures.value) ∙ c.as_slice.ensures.len ∙ sym c.len.ensures ∙ c.in-0.is)

pub returns-in-1-clause-form : goal.returns-in-1-clause-form
returns-in-1-clause-form c =
    let one : length c.leave_out_empty-forms.result.items ≡ 1 = sym (ap length c.as_slice.ensures.value) ∙ c.as_slice.ensures.len ∙ sym c.len.ensures ∙ c.in-1.is in
    IfOk-weaker c.plus.result _ _
    (λ n made. are_zero-one c.args.self.now c.args.forms.items c.leave_out_empty-forms.result.items c.leave_out_empty-forms.ensures c.plus.new.self c.index.result.now n one c.index.ensures
    (ap (list_any (λ k. nat_eq k 2)) (sym c.as_slice.ensures.value) ∙ sym c.contains.ensures.value ∙ c.if-contains.false) made) c.plus.ensures.form

pub returns-in_default-clause-form : goal.returns-in_default-clause-form
returns-in_default-clause-form c =
    let size : length c.leave_out_empty-forms.result.items ≡ c.len.result = sym (ap length c.as_slice.ensures.value) ∙ c.as_slice.ensures.len ∙ sym c.len.ensures in
    IfOk-weaker c.single.result _ _
    (λ n made. are_zero-several c.args.self.now c.args.forms.items c.leave_out_empty-forms.result.items c.leave_out_empty-forms.ensures c.single.new.self n
    (λ e. omega arith) (λ e. omega arith)
    (ap (list_any (λ k. nat_eq k 2)) (sym c.as_slice.ensures.value) ∙ sym c.contains.ensures.value ∙ c.if-contains.false) made) c.single.ensures
