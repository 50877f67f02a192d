use Rattle.std.proofs.Common.{◌≡◌, ◌<◌, ◌≤◌, None, sym, ◌∙◌, map}
use Rattle.std.specs.Prelude.{take}
use Rattle.ipdl_rules_r.proofs.ExpressionAnswers.{tests_of_asked, instance_told, told_instance, answered_same, same_or_memory, same_told, abstracts_told, larges_told, wides_told, differs_told, asks, form_not_told}
use Rattle.ipdl_rules_r.proofs.FormAnswers.{alike_told, alike_or_memory, large_forms_told, form_told, tells_forms, compares, is_compared_pair, instance_of_alike, alike_of_instance}
use Rattle.ipdl_rules_r.proofs.TruthRefusals.{tells_truth}
use Rattle.ipdl_rules_r.specs.Told.{told_of, told_of_forms}
use Rattle.ipdl_rules_r.specs.TruthTests.{TellsTruth, form_refusal, truth_refusal}
use Rattle.ipdl_linear.specs.Likeness.{IsLarge, likeness_of, pair_of, weight_of}
use Rattle.ipdl_linear.specs.Weights.{greatest_weight}
use Rattle.ipdl_linear.specs.declared.likeness.Likeness.TheVariants.{Differ}
use Rattle.ipdl_term.specs.Surroundings.{condition_of}
use Rattle.ipdl_rules_r.specs.Expressions.{OfNone}
use Rattle.ipdl_term.specs.Sizes.{saturated}
use Rattle.ipdl_truth.specs.Questions.{first_abstract, question_of, weight_of as question_weight}
use Rattle.ipdl_rules_r.proofs.expressions.apply_expr.Goals as goal

pub agree-requires-clause-tests : goal.agree-requires-clause-tests
agree-requires-clause-tests c = tests_of_asked c.args.sig.now c.args.widths.now c.args.conditions.now c.args.old.now c.args.rule.now c.in-Table.k c.in-Table.new c.in-Table.is c.requires.rule

pub returns-in-Table-clause-ok : goal.returns-in-Table-clause-ok
returns-in-Table-clause-ok c = λ e.
    let q = question_of c.args.sig.now c.args.widths.now c.args.old.now c.in-Table.new (take c.in-Table.k c.args.conditions.now) in
    let same = same_told c.agree.result (sym c.told.ensures ∙ e) in
    instance_told c.args.sig.now c.args.widths.now c.args.conditions.now c.args.old.now c.args.rule.now c.in-Table.k c.in-Table.new c.in-Table.is c.requires.rule
    (answered_same q c.agree.result c.agree.ensures.abstracts c.agree.ensures.large c.agree.ensures.too_wide c.agree.ensures.same same)

pub returns-in-Table-clause-instance : goal.returns-in-Table-clause-instance
returns-in-Table-clause-instance c = λ right h.
    let q = question_of c.args.sig.now c.args.widths.now c.args.old.now c.in-Table.new (take c.in-Table.k c.args.conditions.now) in
    rw c.told.ensures
    (same_or_memory q c.agree.result c.agree.ensures.abstracts c.agree.ensures.large c.agree.ensures.too_wide c.agree.ensures.same
    (told_instance c.args.sig.now c.args.widths.now c.args.conditions.now c.args.old.now c.args.rule.now c.in-Table.k c.in-Table.new c.in-Table.is right h))

pub returns-in-Table-clause-abstracts : goal.returns-in-Table-clause-abstracts
returns-in-Table-clause-abstracts c = rw c.told.ensures (abstracts_told c.args.sig.now c.args.widths.now c.args.conditions.now c.args.old.now c.args.rule.now c.in-Table.k c.in-Table.new c.in-Table.is c.agree.result c.agree.ensures.abstracts)

pub returns-in-Table-clause-large : goal.returns-in-Table-clause-large
returns-in-Table-clause-large c = rw c.told.ensures (larges_told c.args.sig.now c.args.widths.now c.args.conditions.now c.args.old.now c.args.rule.now c.in-Table.k c.in-Table.new c.in-Table.is c.agree.result c.agree.ensures.large)

pub returns-in-Table-clause-too_wide : goal.returns-in-Table-clause-too_wide
returns-in-Table-clause-too_wide c = rw c.told.ensures (wides_told c.args.sig.now c.args.widths.now c.args.conditions.now c.args.old.now c.args.rule.now c.in-Table.k c.in-Table.new c.in-Table.is c.agree.result c.agree.ensures.too_wide)

pub returns-in-Table-clause-not_same : goal.returns-in-Table-clause-not_same
returns-in-Table-clause-not_same c = rw c.told.ensures (differs_told c.args.sig.now c.args.widths.now c.args.conditions.now c.args.old.now c.args.rule.now c.in-Table.k c.in-Table.new c.in-Table.is c.agree.result c.agree.ensures.differ)

pub returns-in-Table-clause-told : goal.returns-in-Table-clause-told
returns-in-Table-clause-told c = λ asking.
    let q = question_of c.args.sig.now c.args.widths.now c.args.old.now c.in-Table.new (take c.in-Table.k c.args.conditions.now) in
    rw c.told.ensures
    (asks c.args.sig.now c.args.widths.now c.args.conditions.now c.args.old.now c.args.rule.now c.in-Table.k c.in-Table.new c.in-Table.is
    (λ x. TellsTruth (told_of c.agree.result) (truth_refusal x)) (λ x. TellsTruth (told_of c.agree.result) (form_refusal x))
    (tells_truth q c.agree.result c.agree.ensures.abstracts c.agree.ensures.large c.agree.ensures.too_wide c.agree.ensures.same c.agree.ensures.differ))

pub returns-in-Table-clause-not_form : goal.returns-in-Table-clause-not_form
returns-in-Table-clause-not_form c = λ bit e. absurd (form_not_told c.agree.result bit (sym c.told.ensures ∙ e))

pub returns-in-Lin-clause-ok : goal.returns-in-Lin-clause-ok
returns-in-Lin-clause-ok c = λ e.
    let p = pair_of c.args.sig.now c.args.widths.now c.args.old.now c.in-Lin.new in
    instance_of_alike c.args.sig.now c.args.widths.now (map condition_of c.args.conditions.now) c.args.old.now c.args.rule.now c.in-Lin.new c.in-Lin.is
    (alike_told p c.same_form.result c.same_form.ensures.large c.same_form.ensures.likeness (sym c.told_of_forms.ensures ∙ e))

pub returns-in-Lin-clause-instance : goal.returns-in-Lin-clause-instance
returns-in-Lin-clause-instance c = λ right h.
    let p = pair_of c.args.sig.now c.args.widths.now c.args.old.now c.in-Lin.new in
    rw c.told_of_forms.ensures
    (alike_or_memory p c.same_form.result c.same_form.ensures.large c.same_form.ensures.likeness
    (alike_of_instance c.args.sig.now c.args.widths.now (map condition_of c.args.conditions.now) c.args.old.now c.args.rule.now c.in-Lin.new c.in-Lin.is right h))

pub returns-in-Lin-clause-large : goal.returns-in-Lin-clause-large
returns-in-Lin-clause-large c = λ bits.
    let p = pair_of c.args.sig.now c.args.widths.now c.args.old.now c.in-Lin.new in
    let told = large_forms_told p c.same_form.result c.same_form.ensures.large c.same_form.ensures.likeness bits in
    rw c.told_of_forms.ensures (
      λ e. compares c.args.sig.now c.args.widths.now (map condition_of c.args.conditions.now) c.args.old.now c.args.rule.now c.in-Lin.new c.in-Lin.is (λ q. (first_abstract q ≡ None) × (greatest_weight < question_weight q) × (bits ≡ saturated (question_weight q))) (λ x. IsLarge x bits) (told.0 e),
      λ h. told.1 (is_compared_pair c.args.sig.now c.args.widths.now (map condition_of c.args.conditions.now) c.args.old.now c.args.rule.now c.in-Lin.new c.in-Lin.is (λ q. (first_abstract q ≡ None) × (greatest_weight < question_weight q) × (bits ≡ saturated (question_weight q))) (λ x. IsLarge x bits) h),
    )

pub returns-in-Lin-clause-not_form : goal.returns-in-Lin-clause-not_form
returns-in-Lin-clause-not_form c = λ bit e.
    let p = pair_of c.args.sig.now c.args.widths.now c.args.old.now c.in-Lin.new in
    compares c.args.sig.now c.args.widths.now (map condition_of c.args.conditions.now) c.args.old.now c.args.rule.now c.in-Lin.new c.in-Lin.is OfNone
    (λ x. (weight_of x ≤ greatest_weight) × (likeness_of x ≡ Differ bit))
    (form_told p c.same_form.result c.same_form.ensures.large c.same_form.ensures.likeness bit (sym c.told_of_forms.ensures ∙ e))

pub returns-in-Lin-clause-told : goal.returns-in-Lin-clause-told
returns-in-Lin-clause-told c = λ asking.
    let p = pair_of c.args.sig.now c.args.widths.now c.args.old.now c.in-Lin.new in
    rw c.told_of_forms.ensures
    (compares c.args.sig.now c.args.widths.now (map condition_of c.args.conditions.now) c.args.old.now c.args.rule.now c.in-Lin.new c.in-Lin.is
    (λ x. TellsTruth (told_of_forms c.same_form.result) (truth_refusal x)) (λ x. TellsTruth (told_of_forms c.same_form.result) (form_refusal x))
    (tells_forms p c.same_form.result c.same_form.ensures.large c.same_form.ensures.likeness))
