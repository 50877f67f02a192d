-- A document whose tree has no faults keeps the limits.
use Rattle.std.proofs.Common.{◌≡◌, ℕ, suc, ◌+◌, ◌<◌, ◌≤◌, List, [], ◌∷◌, ◌++◌, length, Some, refl, ap, subst, ◌∙◌, arith}
use Rattle.std.specs.Prelude.{nat_le, nat_lt, codes, bytes_eq, ◌==◌, ◌&&◌}
use Rattle.std.specs.List.{AllByRecursion}
use Rattle.std.proofs.lemmas.Bool.{ltb-true}
use Rattle.ipdl_base.specs.declared.limit.Limit.TheVariants.{Steps, Items}
use Rattle.ipdl_term.specs.Sizes.{term_nodes, protocol_nodes, most_nodes}
use Rattle.ipdl_term.specs.Rules.{Rule, RuleKind, at_reactions, at_expressions, at_protocols, Heading, row_of, heading_of, heading_named}
use Rattle.ipdl_term.specs.Steps.{Step, plain, rev, invoke}
use Rattle.ipdl_term.specs.Terms.{Term, protocol_term, reaction_term, expression_term, Protocol}
use Rattle.ipdl_term.specs.declared.interface.Interface.{Interface}
use Rattle.ipdl_tree.specs.Trees.{Located, word, group, Forest, no_trees, tree, offset_of}
use Rattle.ipdl_forms.specs.declared.fault.FormCause.TheVariants.{NotAForm}
use Rattle.ipdl_forms.specs.Documents.{Entry, symbol_entry, protocol_entry, assumption_entry, theorem_entry, Document}
use Rattle.ipdl_forms.specs.Faults.{form_fault, over_fault, tested}
use Rattle.ipdl_forms.specs.Items.{nothing_earlier, earlier_with, body_scope, item_name_faults, interface_faults, SpellsEntry, item_faults, earlier_past, AreEntries, SpellsDocument, most_items, all_item_faults, version_faults, document_faults}
use Rattle.ipdl_forms.specs.Limits.{IsStepWithin, AreSidesWithin, IsEntryWithin, IsWithinLimits}
use Rattle.ipdl_forms.specs.Lists.{tree_count, tree_at, without_first, operands}
use Rattle.ipdl_forms.specs.Protocols.{protocol_faults}
use Rattle.ipdl_forms.specs.Scopes.{NameScope}
use Rattle.ipdl_forms.specs.Steps.{Earlier, SpellsTerm, term_faults, SpellsStep, step_scope, reversed_faults, step_faults, AreSteps, all_step_faults, most_steps, headed_faults, SpellsSide, side_faults, first_name, declared_faults}
use Rattle.ipdl_forms.proofs.CleanItems.{step_count, earlier_past-with}
use Rattle.ipdl_forms.proofs.Faults.{append-clean, tested-holds}
use Rattle.ipdl_forms.proofs.RuleWords.{heading_named-word}
use Rattle.ipdl_forms.proofs.Terms.{nodes_protocol, nodes_reaction}
use Rattle.ipdl_forms.proofs.TreeForms.{with_head, first_name_head}

-- ---- steps

within_term : (scope : NameScope) (kind : RuleKind) (heading : Heading) (term : Term) (t : Located) → heading.kind ≡ kind → SpellsTerm scope kind term t → term_faults scope (Some heading) t ≡ [] → term_nodes term ≤ most_nodes
within_term scope at_protocols heading (protocol_term p) t is s clean = nodes_protocol scope p t s (rw is at clean)
within_term scope at_protocols heading (reaction_term r) t is s clean = absurd s
within_term scope at_protocols heading (expression_term e) t is s clean = absurd s
within_term scope at_reactions heading (reaction_term r) t is s clean = nodes_reaction scope r t s (rw is at clean)
within_term scope at_reactions heading (protocol_term p) t is s clean = absurd s
within_term scope at_reactions heading (expression_term e) t is s clean = absurd s
within_term scope at_expressions heading term t is s clean = absurd s

within_rev : (earlier : Earlier) (path : List ℕ) (a : Rule) (term : Term) (t : Located) → SpellsStep earlier (rev path a term) t → step_faults earlier t ≡ [] → term_nodes term ≤ most_nodes
within_rev earlier path a term t s clean =
    with_head (λ u. SpellsStep earlier (rev path a term) u → step_faults earlier u ≡ [] → term_nodes term ≤ most_nodes) t (codes "rev") s.0.0 (λ pos at ts h none. at_group pos at ts h none) s clean
  where
    at_group : (pos at : ℕ) (ts : Forest) → SpellsStep earlier (rev path a term) (group pos (tree (word at (codes "rev")) ts)) → step_faults earlier (group pos (tree (word at (codes "rev")) ts)) ≡ [] → term_nodes term ≤ most_nodes
    at_group pos at ts h none =
        let heading = heading_named (first_name (tree_at 0 ts)) in
        let front = tested (tree_count ts == 2) (form_fault NotAForm pos) ++ reversed_faults (step_scope earlier) heading (tree_at 0 ts) in
        let last = append-clean front (term_faults (step_scope earlier) heading (tree_at 1 ts)) none in
        let is : heading_named (first_name (tree_at 0 ts)) ≡ Some (heading_of a) = ap heading_named (first_name_head (tree_at 0 ts) (row_of a).word h.1.0) ∙ heading_named-word a in
        within_term (step_scope earlier) (row_of a).kind (heading_of a) term (tree_at 1 ts) refl h.2 (subst (λ x. term_faults (step_scope earlier) x (tree_at 1 ts) ≡ []) is last.1)

within_step : (earlier : Earlier) (m : Step) (t : Located) → SpellsStep earlier m t → step_faults earlier t ≡ [] → IsStepWithin m
within_step earlier (plain path a) t s clean = tt
within_step earlier (rev path a term) t s clean = within_rev earlier path a term t s clean
within_step earlier (invoke path name direction pairs) t s clean = tt

within_steps : (earlier : Earlier) (before : ℕ) (ms : List Step) (ts : Forest) → AreSteps earlier ms ts → before ≤ most_steps → all_step_faults earlier before ts ≡ [] → (before + length ms ≤ most_steps) × AllByRecursion IsStepWithin ms
within_steps earlier before [] no_trees s few clean = (omega arith, tt)
within_steps earlier before [] (tree t ts) s few clean = absurd s
within_steps earlier before (m ∷ ms) no_trees s few clean = absurd s
within_steps earlier before (m ∷ ms) (tree t ts) s few clean =
    let count = tested (nat_lt before most_steps) (over_fault Steps (offset_of t)) in
    let all = append-clean (count ++ step_faults earlier t) (all_step_faults earlier (suc before) ts) clean in
    let front = append-clean count (step_faults earlier t) all.0 in
    let below : before < most_steps = ltb-true before most_steps (tested-holds (nat_lt before most_steps) (over_fault Steps (offset_of t)) front.0) in
    let one_more : suc before ≤ most_steps = omega arith in
    let rest = within_steps earlier (suc before) ms ts s.1 one_more all.1 in
    (omega (arith, rest.0), (within_step earlier m t s.0 front.1, rest.1))

within_sides : (earlier : Earlier) (lefts rights : List Step) (t u : Located) → SpellsSide earlier (codes "left") lefts t → SpellsSide earlier (codes "right") rights u → side_faults earlier (codes "left") 0 t ≡ [] → side_faults earlier (codes "right") (tree_count (operands t)) u ≡ [] → AreSidesWithin lefts rights
within_sides earlier lefts rights t u left right clean also =
    let of_left = append-clean (headed_faults (codes "left") t) (all_step_faults earlier 0 (operands t)) clean in
    let of_right = append-clean (headed_faults (codes "right") u) (all_step_faults earlier (tree_count (operands t)) (operands u)) also in
    let first = within_steps earlier 0 lefts (operands t) left.1 (omega arith) of_left.1 in
    let count = step_count earlier lefts (operands t) left.1 in
    let few : tree_count (operands t) ≤ most_steps = omega (arith, first.0, count) in
    let second = within_steps earlier (tree_count (operands t)) rights (operands u) right.1 few of_right.1 in
    (omega (arith, second.0, count), first.1, second.1)

-- ---- items

within_protocol : (earlier : Earlier) (name : List ℕ) (interface : Interface) (body : Protocol) (t : Located) → SpellsEntry earlier (protocol_entry name interface body) t → item_faults earlier t ≡ [] → protocol_nodes body ≤ most_nodes
within_protocol earlier name interface body t s clean =
    with_head (λ u. SpellsEntry earlier (protocol_entry name interface body) u → item_faults earlier u ≡ [] → protocol_nodes body ≤ most_nodes) t (codes "protocol") s.0.0 (λ pos at ts h none. at_group pos at ts h none) s clean
  where
    at_group : (pos at : ℕ) (ts : Forest) → SpellsEntry earlier (protocol_entry name interface body) (group pos (tree (word at (codes "protocol")) ts)) → item_faults earlier (group pos (tree (word at (codes "protocol")) ts)) ≡ [] → protocol_nodes body ≤ most_nodes
    at_group pos at ts h none =
        let form = tested (tree_count ts == 4) (form_fault NotAForm pos) in
        let front = item_name_faults earlier (tree_at 0 ts) ++ interface_faults (tree_at 1 ts) (tree_at 2 ts) in
        let last = protocol_faults (body_scope earlier) (Some 0) (tree_at 3 ts) in
        let parts = append-clean form (front ++ last) none in
        let bodies = append-clean front last parts.1 in
        nodes_protocol (body_scope earlier) body (tree_at 3 ts) h.3 bodies.1

within_theorem : (earlier : Earlier) (name left right : List ℕ) (lefts rights : List Step) (t : Located) → SpellsEntry earlier (theorem_entry name left right lefts rights) t → item_faults earlier t ≡ [] → AreSidesWithin lefts rights
within_theorem earlier name left right lefts rights t s clean =
    with_head (λ u. SpellsEntry earlier (theorem_entry name left right lefts rights) u → item_faults earlier u ≡ [] → AreSidesWithin lefts rights) t (codes "theorem") s.0.0 (λ pos at ts h none. at_group pos at ts h none) s clean
  where
    at_group : (pos at : ℕ) (ts : Forest) → SpellsEntry earlier (theorem_entry name left right lefts rights) (group pos (tree (word at (codes "theorem")) ts)) → item_faults earlier (group pos (tree (word at (codes "theorem")) ts)) ≡ [] → AreSidesWithin lefts rights
    at_group pos at ts h none =
        let form = tested (tree_count ts == 5) (form_fault NotAForm pos) in
        let front = item_name_faults earlier (tree_at 0 ts) ++ declared_faults earlier.protocols (tree_at 1 ts) ++ declared_faults earlier.protocols (tree_at 2 ts) in
        let first = side_faults earlier (codes "left") 0 (tree_at 3 ts) in
        let second = side_faults earlier (codes "right") (tree_count (operands (tree_at 3 ts))) (tree_at 4 ts) in
        let parts = append-clean form (front ++ first ++ second) none in
        let sides = append-clean (front ++ first) second parts.1 in
        let of_left = append-clean front first sides.0 in
        within_sides earlier lefts rights (tree_at 3 ts) (tree_at 4 ts) h.3 h.4 of_left.1 sides.1

within_entry : (earlier : Earlier) (e : Entry) (t : Located) → SpellsEntry earlier e t → item_faults earlier t ≡ [] → IsEntryWithin e
within_entry earlier (symbol_entry n symbol) t s clean = tt
within_entry earlier (protocol_entry name interface body) t s clean =
    within_protocol earlier name interface body t s clean
within_entry earlier (assumption_entry name left right) t s clean = tt
within_entry earlier (theorem_entry name left right lefts rights) t s clean =
    within_theorem earlier name left right lefts rights t s clean

within_entries : (earlier : Earlier) (before : ℕ) (es : List Entry) (ts : Forest) → AreEntries earlier es ts → before ≤ most_items → all_item_faults earlier before ts ≡ [] → (before + length es ≤ most_items) × AllByRecursion IsEntryWithin es
within_entries earlier before [] no_trees s few clean = (omega arith, tt)
within_entries earlier before [] (tree t ts) s few clean = absurd s
within_entries earlier before (e ∷ es) no_trees s few clean = absurd s
within_entries earlier before (e ∷ es) (tree t ts) s few clean =
    let count = tested (nat_lt before most_items) (over_fault Items (offset_of t)) in
    let all = append-clean (count ++ item_faults earlier t) (all_item_faults (earlier_past t earlier) (suc before) ts) clean in
    let front = append-clean count (item_faults earlier t) all.0 in
    let below : before < most_items = ltb-true before most_items (tested-holds (nat_lt before most_items) (over_fault Items (offset_of t)) front.0) in
    let one_more : suc before ≤ most_items = omega arith in
    let later : all_item_faults (earlier_with e earlier) (suc before) ts ≡ [] = subst (λ x. all_item_faults x (suc before) ts ≡ []) (earlier_past-with earlier e t s.0) all.1 in
    let rest = within_entries (earlier_with e earlier) (suc before) es ts s.1 one_more later in
    (omega (arith, rest.0), (within_entry earlier e t s.0 front.1, rest.1))

-- ---- documents

-- a document is within the limits where the tree that spells it has no faults
pub within_document : (d : Document) (t : Located) → SpellsDocument d t → document_faults t ≡ [] → IsWithinLimits d
within_document d t s clean =
    with_head (λ u. SpellsDocument d u → document_faults u ≡ [] → IsWithinLimits d) t (codes "ipdl") s.0.0 (λ pos at ts h none. at_group pos at ts h none) s clean
  where
    at_group : (pos at : ℕ) (ts : Forest) → SpellsDocument d (group pos (tree (word at (codes "ipdl")) ts)) → document_faults (group pos (tree (word at (codes "ipdl")) ts)) ≡ [] → IsWithinLimits d
    at_group pos at ts h none =
        let front = tested (bytes_eq (codes "ipdl") (codes "ipdl") && nat_le 1 (tree_count ts)) (form_fault NotAForm pos) ++ version_faults (tree_at 0 ts) in
        let last = append-clean front (all_item_faults nothing_earlier 0 (without_first ts)) none in
        let all = within_entries nothing_earlier 0 d.entries (without_first ts) h.3 (omega arith) last.1 in
        (omega (arith, all.0), all.1)
