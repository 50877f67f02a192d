use Rattle.std.proofs.Common.{◌≡◌, inl, inr, sym, ap₂, subst}
use Rattle.std.specs.Prelude.{min, max}
use Rattle.std.proofs.lemmas.Result.{IfOk-weaker}
use Rattle.ipdl_linear.proofs.Growing.{FormStands-nothing, times-nothing, times-second, times-first, times-combines}
use Rattle.ipdl_linear.specs.Entries.{FormStands, IsSingle, product_entry}
use Rattle.ipdl_linear.proofs.numbering.Numbering.times.Goals.{then-q-eq-ONE_FORM-via-then-q-eq-ONE_FORM, then-q-eq-ONE_FORM-via-else-q-eq-ONE_FORM+then-p-q}
use Rattle.ipdl_linear.proofs.numbering.Numbering.times.Goals as goal

pub returns-then-p-eq-NOTHING-clause-form : goal.returns-then-p-eq-NOTHING-clause-form
returns-then-p-eq-NOTHING-clause-form c = λ numbers p q h g.
    subst (FormStands c.args.self.now 0) (sym (times-nothing c.args.self.now numbers p q c.args.p c.args.q h g (elim c.then-p-eq-NOTHING.either [ inl e ↦ inl e | inr e ↦ inr e.1 ])))
    (FormStands-nothing c.args.self.now numbers)

pub returns-then-p-eq-ONE_FORM-clause-form : goal.returns-then-p-eq-ONE_FORM-clause-form
returns-then-p-eq-ONE_FORM-clause-form c = λ numbers p q h g.
    subst (FormStands c.args.self.now c.args.q) (sym (times-second c.args.self.now numbers p q c.args.p c.args.q h g c.if-p-eq-NOTHING.false c.if-q-eq-NOTHING.false c.if-p-eq-ONE_FORM.true)) g

pub returns-then-q-eq-ONE_FORM-clause-form : goal.returns-then-q-eq-ONE_FORM-clause-form
returns-then-q-eq-ONE_FORM-clause-form c = λ numbers p q h g.
    subst (FormStands c.args.self.now c.args.p) (sym (times-first c.args.self.now numbers p q c.args.p c.args.q h g c.if-p-eq-NOTHING.false c.if-q-eq-NOTHING.false c.if-p-eq-ONE_FORM.false
    (elim c.then-q-eq-ONE_FORM.branch [ then-q-eq-ONE_FORM-via-then-q-eq-ONE_FORM w ↦ inl w.if-q-eq-ONE_FORM.true | then-q-eq-ONE_FORM-via-else-q-eq-ONE_FORM+then-p-q w ↦ inr w.if-p-q.true ]))) h

pub returns-clause-form : goal.returns-clause-form
returns-clause-form c =
    let pair : product_entry c.min.result c.max.result ≡ product_entry (min c.args.p c.args.q) (max c.args.p c.args.q) = ap₂ product_entry c.min.ensures c.max.ensures in
    IfOk-weaker c.single.result _ _
    (λ n made. times-combines c.args.self.now c.single.new.self c.args.p c.args.q n c.if-p-eq-NOTHING.false c.if-q-eq-NOTHING.false c.if-p-eq-ONE_FORM.false c.if-q-eq-ONE_FORM.false c.if-p-q.false
    (subst (IsSingle c.args.self.now c.single.new.self n) pair made)) c.single.ensures
