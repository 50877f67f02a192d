use Rattle.std.proofs.Common.{◌≡◌, ◌⊎◌, inl, inr, ℕ, ◌∙◌, ap, ap₂, sym, reverse}
use Rattle.std.proofs.lemmas.Result.{IfOk-weaker}
use Rattle.ipdl_linear.proofs.Growing.{IsGrowth-then}
use Rattle.ipdl_linear.proofs.Walks.{walked-one, walked-one-is, walked-two, walked-two-is, walked-three}
use Rattle.ipdl_linear.specs.Entries.{IsGrowth}
use Rattle.ipdl_term.specs.Terms.{Expression, application, exclusive, conjunction, negation, concatenation, segment, equality, selection}
use Rattle.ipdl_term.specs.Views.{expression_of}
use Rattle.ipdl_typing.specs.Signatures.{signature_of}
use Rattle.ipdl_linear.proofs.numbering.Numbering.+linear_forms.Goals as goal

pub returns-in_ok-b-in-Mux-clause-growth : goal.returns-in_ok-b-in-Mux-clause-growth
returns-in_ok-b-in-Mux-clause-growth t c =
    IfOk-weaker c.choices.result (λ _. IsGrowth c.linear_forms-in-Mux-2.new.self c.choices.new.self) (λ _. IsGrowth c.args.self.now c.choices.new.self)
    (λ ns last. IsGrowth-then c.args.self.now c.linear_forms.new.self c.choices.new.self c.in_ok-test-in-Mux.ensures.growth
    (IsGrowth-then c.linear_forms.new.self c.linear_forms-in-Mux.new.self c.choices.new.self c.in_ok-a-in-Mux.ensures.growth
    (IsGrowth-then c.linear_forms-in-Mux.new.self c.linear_forms-in-Mux-2.new.self c.choices.new.self c.in_ok-b-in-Mux.ensures.growth last)))
    c.choices.ensures.growth

pub returns-in_ok-b-in-Mux-clause-forms : goal.returns-in_ok-b-in-Mux-clause-forms
returns-in_ok-b-in-Mux-clause-forms t c =
    let is : expression_of c.args.term.now ≡ selection (expression_of c.deref.result.now) (expression_of c.deref-in-Mux.result.now) (expression_of c.deref-in-Mux-2.result.now) =
    ap expression_of c.in-Mux.is
    ∙ ap (λ y. selection (expression_of y) (expression_of c.in-Mux.a.value) (expression_of c.in-Mux.b.value)) (sym c.deref.ensures)
    ∙ ap₂ (λ y z. selection (expression_of c.deref.result.now) (expression_of y) (expression_of z)) (sym c.deref-in-Mux.ensures) (sym c.deref-in-Mux-2.ensures) in
    IfOk-weaker c.choices.result _ _
    (λ ns made. walked-three c.args.self.now c.linear_forms.new.self c.linear_forms-in-Mux.new.self c.linear_forms-in-Mux-2.new.self c.choices.new.self (signature_of c.args.sig.now) (reverse c.args.widths.now)
    c.in_ok-test-in-Mux.test.items c.in_ok-a-in-Mux.a.items c.in_ok-b-in-Mux.b.items c.as_slice.result.now c.as_slice-in-Mux.result.now c.as_slice-in-Mux-2.result.now ns.items
    (expression_of c.args.term.now) _ _ _ c.in_ok-test-in-Mux.ensures.growth c.in_ok-a-in-Mux.ensures.growth c.in_ok-b-in-Mux.ensures.growth
    c.in_ok-test-in-Mux.ensures.forms c.in_ok-a-in-Mux.ensures.forms c.in_ok-b-in-Mux.ensures.forms
    c.as_slice.ensures.value c.as_slice-in-Mux.ensures.value c.as_slice-in-Mux-2.ensures.value made is)
    c.choices.ensures.forms

pub returns-in_ok-b-in-Xor-clause-growth : goal.returns-in_ok-b-in-Xor-clause-growth
returns-in_ok-b-in-Xor-clause-growth t c =
    IfOk-weaker c.over_two.result (λ _. IsGrowth c.linear_forms-in-Xor-2.new.self c.over_two.new.self) (λ _. IsGrowth c.args.self.now c.over_two.new.self)
    (λ ns last. IsGrowth-then c.args.self.now c.linear_forms-in-Xor.new.self c.over_two.new.self c.in_ok-a-in-Xor.ensures.growth
    (IsGrowth-then c.linear_forms-in-Xor.new.self c.linear_forms-in-Xor-2.new.self c.over_two.new.self c.in_ok-b-in-Xor.ensures.growth last))
    c.over_two.ensures.growth

-- which operator it is, over the operands that were read
two_operands : (t : ℕ) (c : goal.After-over_two t) →
    let x = expression_of c.args.term.now in let a = expression_of c.deref-in-Xor.result.now in let b = expression_of c.deref-in-Xor-2.result.now in
    (x ≡ exclusive a b) ⊎ ((x ≡ conjunction a b) ⊎ ((x ≡ concatenation a b) ⊎ (x ≡ equality a b)))
two_operands t c =
    let read = λ (op : Expression → Expression → Expression). ap₂ (λ y z. op (expression_of y) (expression_of z)) (sym c.deref-in-Xor.ensures) (sym c.deref-in-Xor-2.ensures) in
    elim c.in-Xor.is [
      | inl h ↦ inl (ap expression_of h ∙ read exclusive)
      | inr k ↦ inr (elim k [
        | inl h ↦ inl (ap expression_of h ∙ read conjunction)
        | inr l ↦ inr (elim l [
          | inl h ↦ inl (ap expression_of h ∙ read concatenation)
          | inr h ↦ inr (ap expression_of h ∙ read equality)
        ])
      ])
    ]

pub returns-in_ok-b-in-Xor-clause-forms : goal.returns-in_ok-b-in-Xor-clause-forms
returns-in_ok-b-in-Xor-clause-forms t c =
    IfOk-weaker c.over_two.result _ _
    (λ ns made. walked-two c.args.self.now c.linear_forms-in-Xor.new.self c.linear_forms-in-Xor-2.new.self c.over_two.new.self (signature_of c.args.sig.now) (reverse c.args.widths.now)
    c.in_ok-a-in-Xor.a.items c.in_ok-b-in-Xor.b.items ns.items (expression_of c.args.term.now) (expression_of c.deref-in-Xor.result.now) (expression_of c.deref-in-Xor-2.result.now)
    c.in_ok-a-in-Xor.ensures.growth c.in_ok-b-in-Xor.ensures.growth c.in_ok-a-in-Xor.ensures.forms c.in_ok-b-in-Xor.ensures.forms made
    (walked-two-is (signature_of c.args.sig.now) (reverse c.args.widths.now) _ _ _ (two_operands t c)))
    c.over_two.ensures.forms

pub returns-in_ok-a-in-Apply-clause-growth : goal.returns-in_ok-a-in-Apply-clause-growth
returns-in_ok-a-in-Apply-clause-growth t c =
    IfOk-weaker c.over_one.result (λ _. IsGrowth c.linear_forms-in-Apply.new.self c.over_one.new.self) (λ _. IsGrowth c.args.self.now c.over_one.new.self)
    (λ ns last. IsGrowth-then c.args.self.now c.linear_forms-in-Apply.new.self c.over_one.new.self c.in_ok-a-in-Apply.ensures.growth last)
    c.over_one.ensures.growth

one_operand : (t : ℕ) (c : goal.After-over_one t) →
    let x = expression_of c.args.term.now in let e = expression_of c.deref-in-Apply.result.now in
    ((f : ℕ) × (x ≡ application f e)) ⊎ ((x ≡ negation e) ⊎ ((i : ℕ) × (n : ℕ) × (x ≡ segment i n e)))
one_operand t c =
    let read = λ (op : Expression → Expression). ap (λ y. op (expression_of y)) (sym c.deref-in-Apply.ensures) in
    elim c.in-Apply.is [
      | inl h ↦ inl (h.0, ap expression_of h.1 ∙ read (application h.0))
      | inr k ↦ inr (elim k [
        | inl h ↦ inl (ap expression_of h ∙ read negation)
        | inr h ↦ inr (h.0, h.1, ap expression_of h.2 ∙ read (segment h.0 h.1))
      ])
    ]

pub returns-in_ok-a-in-Apply-clause-forms : goal.returns-in_ok-a-in-Apply-clause-forms
returns-in_ok-a-in-Apply-clause-forms t c =
    IfOk-weaker c.over_one.result _ _
    (λ ns made. walked-one c.args.self.now c.linear_forms-in-Apply.new.self c.over_one.new.self (signature_of c.args.sig.now) (reverse c.args.widths.now)
    c.in_ok-a-in-Apply.a.items ns.items (expression_of c.args.term.now) (expression_of c.deref-in-Apply.result.now)
    c.in_ok-a-in-Apply.ensures.growth c.in_ok-a-in-Apply.ensures.forms made
    (walked-one-is (signature_of c.args.sig.now) (reverse c.args.widths.now) _ _ (one_operand t c)))
    c.over_one.ensures.forms
