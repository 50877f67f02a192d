use Rattle.std.proofs.Common.{List, ℕ, map, sym, subst, ◌∙◌}
use Rattle.ipdl_term.specs.Steps.{step_of}
use Rattle.ipdl_term.specs.Views.{protocol_of}
use Rattle.ipdl_tree.specs.Trees.{word, group, tree}
use Rattle.ipdl_tree.specs.Views.{all_located}
use Rattle.ipdl_forms.specs.Documents.{protocol_entry, assumption_entry, theorem_entry}
use Rattle.ipdl_forms.specs.Items.{SpellsEntry}
use Rattle.ipdl_read.specs.Parts.{earlier_at}
use Rattle.ipdl_read.proofs.items.read_form.Goals as goal

pub returns-in_ok-protocol-in-protocol-clause-spelled : goal.returns-in_ok-protocol-in-protocol-clause-spelled
returns-in_ok-protocol-in-protocol-clause-spelled c =
    subst (λ (name : List ℕ). SpellsEntry (earlier_at c.args.sig.now c.args.items.now) (protocol_entry c.in_ok-protocol-in-protocol.protocol.name c.in_ok-protocol-in-protocol.protocol.interface (protocol_of c.in_ok-protocol-in-protocol.protocol.body)) (group c.args.list.0 (tree (word c.args.head.0 name) (all_located c.args.parts.now)))) (sym c.in-protocol.is ∙ c.text.ensures.value)
    (c.in_ok-protocol-in-protocol.ensures.spelled c.args.head.0)

pub returns-in_ok-assumption-in-assume-clause-spelled : goal.returns-in_ok-assumption-in-assume-clause-spelled
returns-in_ok-assumption-in-assume-clause-spelled c =
    subst (λ (name : List ℕ). SpellsEntry (earlier_at c.args.sig.now c.args.items.now) (assumption_entry c.in_ok-assumption-in-assume.assumption.name c.in_ok-assumption-in-assume.assumption.left c.in_ok-assumption-in-assume.assumption.right) (group c.args.list.0 (tree (word c.args.head.0 name) (all_located c.args.parts.now)))) (sym c.in-assume.is ∙ c.text.ensures.value)
    (c.in_ok-assumption-in-assume.ensures.spelled c.args.head.0)

pub returns-in_ok-theorem-in-theorem-clause-spelled : goal.returns-in_ok-theorem-in-theorem-clause-spelled
returns-in_ok-theorem-in-theorem-clause-spelled c =
    subst (λ (name : List ℕ). SpellsEntry (earlier_at c.args.sig.now c.args.items.now) (theorem_entry c.in_ok-theorem-in-theorem.theorem.name c.in_ok-theorem-in-theorem.theorem.left c.in_ok-theorem-in-theorem.theorem.right (map step_of c.in_ok-theorem-in-theorem.theorem.left_steps) (map step_of c.in_ok-theorem-in-theorem.theorem.right_steps)) (group c.args.list.0 (tree (word c.args.head.0 name) (all_located c.args.parts.now)))) (sym c.in-theorem.is ∙ c.text.ensures.value)
    (c.in_ok-theorem-in-theorem.ensures.spelled c.args.head.0)
