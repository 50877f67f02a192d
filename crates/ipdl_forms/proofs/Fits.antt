-- Where a tree spells a term and no test fails, the nodes of the term fit.
use Rattle.std.proofs.Common.{◌≡◌, ℕ, suc, ◌+◌, ◌-◌, List, [], ◌∷◌, ◌++◌, refl, sym, subst, arith}
use Rattle.std.specs.Prelude.{◌≤◌, nat_le, Option, Some, None, codes, unwrap_or}
use Rattle.std.proofs.lemmas.Bool.{le-leb, leb-true}
use Rattle.ipdl_term.specs.Sizes.{most_nodes, expression_nodes, reaction_nodes, protocol_nodes}
use Rattle.ipdl_term.specs.Terms.{Expression, literal, variable, outer, application, exclusive, conjunction, negation, concatenation, segment, equality, selection, Reaction, returning, flipping, reading, branching, binding, Protocol, nil, assignment, parallel, hiding}
use Rattle.ipdl_tree.specs.Trees.{Located, word, group, Forest, no_trees, tree}
use Rattle.ipdl_forms.specs.declared.fault.DocFault.{DocFault}
use Rattle.ipdl_forms.specs.declared.fault.FormCause.TheVariants.{NotAForm}
use Rattle.ipdl_forms.specs.Counts.{counted, IsWithinNodes, node_faults}
use Rattle.ipdl_forms.specs.Expressions.{SpellsExpression, operands_after, operands_wanted, head_faults, variable_faults, expression_count, expression_faults, operand_faults}
use Rattle.ipdl_forms.specs.Faults.{tested, form_fault, over_fault, word_faults}
use Rattle.ipdl_forms.specs.Lists.{tree_count, name_in, operand, IsForm}
use Rattle.ipdl_forms.specs.Operators.{expression_operand}
use Rattle.ipdl_forms.specs.Protocols.{SpellsProtocol, protocol_count, protocol_faults, protocols_faults, hidden_faults}
use Rattle.ipdl_forms.specs.Reactions.{SpellsReaction, reaction_count, reaction_faults}
use Rattle.ipdl_forms.specs.Scopes.{NameScope, under_binder}
use Rattle.ipdl_forms.specs.Widths.{greatest_width, width_faults, port_faults}
use Rattle.ipdl_base.specs.declared.limit.Limit.TheVariants.{Nodes}
use Rattle.ipdl_forms.proofs.Clean.{tested-clean, node_faults-clean, head_lists, symbol_known}
use Rattle.ipdl_forms.proofs.CleanProtocols.{part_lists, counted_beside, counted_under}
use Rattle.ipdl_forms.proofs.Faults.{append-clean, tested-holds}
use Rattle.ipdl_forms.proofs.Forms.{form_of_none, form_of_one, form_of_two, form_of_three, form_of_four, form_of_symbol, form_of_literal, form_of_bound, form_of_free}
use Rattle.ipdl_forms.proofs.NodeCounts.{expression_count-spelled, reaction_count-spelled, protocol_count-spelled}
use Rattle.ipdl_forms.proofs.ProtocolForms.{form_of_parallel, form_of_hiding}

-- ---- counts within the limit

-- where the limit is not told, it is kept
node_faults-fit : (count : Option ℕ) (pos : ℕ) → node_faults count pos ≡ [] → IsWithinNodes count
node_faults-fit None pos clean = tt
node_faults-fit (Some n) pos clean =
    leb-true n most_nodes (tested-holds (nat_le n most_nodes) (over_fault Nodes pos) clean)

-- all nodes fit where the parts do that they are at most
joined_two : (count : Option ℕ) (m n all : ℕ) → all ≤ m + n → IsWithinNodes (counted n (counted m count)) → IsWithinNodes (counted all count)
joined_two None m n all less fits = tt
joined_two (Some k) m n all less fits = omega arith

joined_three : (count : Option ℕ) (k m n all : ℕ) → all ≤ k + m + n → IsWithinNodes (counted n (counted m (counted k count))) → IsWithinNodes (counted all count)
joined_three None k m n all less fits = tt
joined_three (Some i) k m n all less fits = omega arith

joined_four : (count : Option ℕ) (i k m n all : ℕ) → all ≤ i + k + m + n → IsWithinNodes (counted n (counted m (counted k (counted i count)))) → IsWithinNodes (counted all count)
joined_four None i k m n all less fits = tt
joined_four (Some j) i k m n all less fits = omega arith

-- ---- the last of some lists

last_of_two : (f g : List DocFault) → f ++ (g ++ []) ≡ [] → g ≡ []
last_of_two f g clean =
    let rest = append-clean f (g ++ []) clean in
    let last = append-clean g [] rest.1 in
    last.0

last_of_three : (f g h : List DocFault) → f ++ (g ++ (h ++ [])) ≡ [] → h ≡ []
last_of_three f g h clean =
    let rest = append-clean f (g ++ (h ++ [])) clean in
    last_of_two g h rest.1

last_of_four : (f g h i : List DocFault) → f ++ (g ++ (h ++ (i ++ []))) ≡ [] → i ≡ []
last_of_four f g h i clean =
    let rest = append-clean f (g ++ (h ++ (i ++ []))) clean in
    last_of_three g h i rest.1

last_of_five : (f g h i j : List DocFault) → f ++ (g ++ (h ++ (i ++ (j ++ [])))) ≡ [] → j ≡ []
last_of_five f g h i j clean =
    let rest = append-clean f (g ++ (h ++ (i ++ (j ++ [])))) clean in
    last_of_four g h i j rest.1

-- ---- expressions

-- the one expression of a list has no fault
one_rest : (scope : NameScope) (count : Option ℕ) (pos at : ℕ) (name : List ℕ) (a : Located) → operands_after scope name ≡ Some (expression_operand ∷ []) → expression_faults scope count (group pos (tree (word at name) (tree a no_trees))) ≡ [] → expression_faults scope (counted 1 count) a ≡ []
one_rest scope count pos at name a known clean =
    let parts = append-clean (head_faults scope pos at name 1 ++ node_faults (counted 1 count) pos) (operand_faults scope (counted 1 count) (operands_wanted scope name) (tree a no_trees)) clean in
    let rest = append-clean (expression_faults scope (counted 1 count) a) [] (subst (λ wanted. operand_faults scope (counted 1 count) (unwrap_or wanted []) (tree a no_trees) ≡ []) known parts.1) in
    rest.0

-- nor has the second of two
two_rest : (scope : NameScope) (count : Option ℕ) (pos at : ℕ) (name : List ℕ) (a b : Located) → operands_after scope name ≡ Some (expression_operand ∷ expression_operand ∷ []) → expression_faults scope count (group pos (tree (word at name) (tree a (tree b no_trees)))) ≡ [] → expression_faults scope (counted (expression_count a) (counted 1 count)) b ≡ []
two_rest scope count pos at name a b known clean =
    let parts = append-clean (head_faults scope pos at name 2 ++ node_faults (counted 1 count) pos) (operand_faults scope (counted 1 count) (operands_wanted scope name) (tree a (tree b no_trees))) clean in
    last_of_two (expression_faults scope (counted 1 count) a) (expression_faults scope (counted (expression_count a) (counted 1 count)) b) (subst (λ wanted. operand_faults scope (counted 1 count) (unwrap_or wanted []) (tree a (tree b no_trees)) ≡ []) known parts.1)

-- trees without a fault have so many nodes that fit
abbrev DoFit : NameScope → (Located → Type 0) → ℕ → Type 0
DoFit scope P n =
    (count : Option ℕ) (t : Located) → P t → expression_faults scope count t ≡ [] → IsWithinNodes (counted n count)

-- a list of one expression
unary_fits : (scope : NameScope) (head : List ℕ) (m : ℕ) (P : Located → Type 0) → operands_after scope head ≡ Some (expression_operand ∷ []) → DoFit scope P m → (count : Option ℕ) (t : Located) → IsForm head 1 t → P (operand 0 t) → expression_faults scope count t ≡ [] → IsWithinNodes (counted (m + 1) count)
unary_fits scope head m P known fit count t form =
    form_of_one head (λ u. P (operand 0 u) → expression_faults scope count u ≡ [] → IsWithinNodes (counted (m + 1) count)) (λ pos at a here clean. joined_two count 1 m (m + 1) (omega arith) (fit (counted 1 count) a here (one_rest scope count pos at head a known clean))) t form

-- a list of two expressions
binary_fits : (scope : NameScope) (head : List ℕ) (m n : ℕ) (P Q : Located → Type 0) → operands_after scope head ≡ Some (expression_operand ∷ expression_operand ∷ []) → DoFit scope Q n → ((x : Located) → P x → expression_count x ≡ m) → (count : Option ℕ) (t : Located) → IsForm head 2 t → P (operand 0 t) → Q (operand 1 t) → expression_faults scope count t ≡ [] → IsWithinNodes (counted (m + n + 1) count)
binary_fits scope head m n P Q known fit many count t form =
    form_of_two head (λ u. P (operand 0 u) → Q (operand 1 u) → expression_faults scope count u ≡ [] → IsWithinNodes (counted (m + n + 1) count)) (λ pos at a b here there clean.
    let is : expression_count a ≡ m = many a here in
    joined_three count 1 (expression_count a) n (m + n + 1) (omega (arith, is)) (fit (counted (expression_count a) (counted 1 count)) b there (two_rest scope count pos at head a b known clean))) t form

pub expression_nodes-fit : (scope : NameScope) (e : Expression) (count : Option ℕ) (t : Located) → SpellsExpression scope e t → expression_faults scope count t ≡ [] → IsWithinNodes (counted (expression_nodes e) count)
expression_nodes-fit scope (literal bits) count t is clean =
    form_of_literal bits (λ u. expression_faults scope count u ≡ [] → IsWithinNodes (counted 1 count)) (λ pos. node_faults-fit (counted 1 count) pos) t is clean
expression_nodes-fit scope (variable n) count t is clean =
    form_of_bound scope n (λ u. expression_faults scope count u ≡ [] → IsWithinNodes (counted 1 count)) (λ pos name at here. let parts = append-clean (node_faults (counted 1 count) pos) (variable_faults scope pos name) here in node_faults-fit (counted 1 count) pos parts.0) t is clean
expression_nodes-fit scope (outer n) count t is clean =
    form_of_free scope n (λ u. expression_faults scope count u ≡ [] → IsWithinNodes (counted 1 count)) (λ pos name at here. let parts = append-clean (node_faults (counted 1 count) pos) (variable_faults scope pos name) here in node_faults-fit (counted 1 count) pos parts.0) t is clean
expression_nodes-fit scope (application f e) count t is clean =
    form_of_symbol scope f (λ u. SpellsExpression scope e (operand 0 u) → expression_faults scope count u ≡ [] → IsWithinNodes (counted (expression_nodes e + 1) count)) (λ pos at name a no_operator symbol first here. joined_two count 1 (expression_nodes e) (expression_nodes e + 1) (omega arith) (expression_nodes-fit scope e (counted 1 count) a first (one_rest scope count pos at name a (symbol_known scope f name no_operator symbol) here))) t is.0 is.1 is.2 clean
expression_nodes-fit scope (exclusive a b) count t is clean =
    binary_fits scope (codes "xor") (expression_nodes a) (expression_nodes b) (SpellsExpression scope a) (SpellsExpression scope b) refl (expression_nodes-fit scope b) (expression_count-spelled scope a) count t is.0 is.1 is.2 clean
expression_nodes-fit scope (conjunction a b) count t is clean =
    binary_fits scope (codes "and") (expression_nodes a) (expression_nodes b) (SpellsExpression scope a) (SpellsExpression scope b) refl (expression_nodes-fit scope b) (expression_count-spelled scope a) count t is.0 is.1 is.2 clean
expression_nodes-fit scope (negation a) count t is clean =
    unary_fits scope (codes "not") (expression_nodes a) (SpellsExpression scope a) refl (expression_nodes-fit scope a) count t is.0 is.1 clean
expression_nodes-fit scope (concatenation a b) count t is clean =
    binary_fits scope (codes "cat") (expression_nodes a) (expression_nodes b) (SpellsExpression scope a) (SpellsExpression scope b) refl (expression_nodes-fit scope b) (expression_count-spelled scope a) count t is.0 is.1 is.2 clean
expression_nodes-fit scope (segment i n a) count t is clean =
    form_of_three (codes "cut") (λ u. SpellsExpression scope a (operand 2 u) → expression_faults scope count u ≡ [] → IsWithinNodes (counted (expression_nodes a + 1) count)) (λ pos at x y z third here. joined_two count 1 (expression_nodes a) (expression_nodes a + 1) (omega arith) (expression_nodes-fit scope a (counted 1 count) z third (last_of_four (node_faults (counted 1 count) pos) (width_faults greatest_width x) (width_faults greatest_width y) (expression_faults scope (counted 1 count) z) here))) t is.0 is.3 clean
expression_nodes-fit scope (equality a b) count t is clean =
    binary_fits scope (codes "eq") (expression_nodes a) (expression_nodes b) (SpellsExpression scope a) (SpellsExpression scope b) refl (expression_nodes-fit scope b) (expression_count-spelled scope a) count t is.0 is.1 is.2 clean
expression_nodes-fit scope (selection c a b) count t is clean =
    form_of_three (codes "mux") (λ u. SpellsExpression scope c (operand 0 u) → SpellsExpression scope a (operand 1 u) → SpellsExpression scope b (operand 2 u) → expression_faults scope count u ≡ [] → IsWithinNodes (counted (expression_nodes c + expression_nodes a + expression_nodes b + 1) count)) (λ pos at x y z first second third here.
    let one : expression_count x ≡ expression_nodes c = expression_count-spelled scope c x first in
    let two : expression_count y ≡ expression_nodes a = expression_count-spelled scope a y second in
    joined_four count 1 (expression_count x) (expression_count y) (expression_nodes b) (expression_nodes c + expression_nodes a + expression_nodes b + 1) (omega (arith, one, two)) (expression_nodes-fit scope b (counted (expression_count y) (counted (expression_count x) (counted 1 count))) z third (last_of_four (node_faults (counted 1 count) pos) (expression_faults scope (counted 1 count) x) (expression_faults scope (counted (expression_count x) (counted 1 count)) y) (expression_faults scope (counted (expression_count y) (counted (expression_count x) (counted 1 count))) z) here))) t is.0 is.1 is.2 is.3 clean

-- ---- reactions

pub reaction_nodes-fit : (scope : NameScope) (r : Reaction) (count : Option ℕ) (t : Located) → SpellsReaction scope r t → reaction_faults scope count t ≡ [] → IsWithinNodes (counted (reaction_nodes r) count)
reaction_nodes-fit scope (returning e) count t is clean =
    form_of_one (codes "ret") (λ u. SpellsExpression scope e (operand 0 u) → reaction_faults scope count u ≡ [] → IsWithinNodes (counted (expression_nodes e + 1) count)) (λ pos at a first here. joined_two count 1 (expression_nodes e) (expression_nodes e + 1) (omega arith) (expression_nodes-fit scope e (counted 1 count) a first (last_of_two (node_faults (counted 1 count) pos) (expression_faults scope (counted 1 count) a) here))) t is.0 is.1 clean
reaction_nodes-fit scope (flipping w) count t is clean =
    form_of_one (codes "flip") (λ u. reaction_faults scope count u ≡ [] → IsWithinNodes (counted 1 count)) (λ pos at a here. let parts = append-clean (node_faults (counted 1 count) pos) (width_faults greatest_width a ++ []) here in node_faults-fit (counted 1 count) pos parts.0) t is.0 clean
reaction_nodes-fit scope (reading c) count t is clean =
    form_of_one (codes "read") (λ u. reaction_faults scope count u ≡ [] → IsWithinNodes (counted 1 count)) (λ pos at a here. let parts = append-clean (node_faults (counted 1 count) pos) (word_faults a ++ []) here in node_faults-fit (counted 1 count) pos parts.0) t is.0 clean
reaction_nodes-fit scope (branching e r s) count t is clean =
    form_of_three (codes "if") (λ u. SpellsExpression scope e (operand 0 u) → SpellsReaction scope r (operand 1 u) → SpellsReaction scope s (operand 2 u) → reaction_faults scope count u ≡ [] → IsWithinNodes (counted (expression_nodes e + reaction_nodes r + reaction_nodes s + 1) count)) (λ pos at x y z first second third here.
    let one : expression_count x ≡ expression_nodes e = expression_count-spelled scope e x first in
    let two : reaction_count y ≡ reaction_nodes r = reaction_count-spelled scope r y second in
    joined_four count 1 (expression_count x) (reaction_count y) (reaction_nodes s) (expression_nodes e + reaction_nodes r + reaction_nodes s + 1) (omega (arith, one, two)) (reaction_nodes-fit scope s (counted (reaction_count y) (counted (expression_count x) (counted 1 count))) z third (last_of_four (node_faults (counted 1 count) pos) (expression_faults scope (counted 1 count) x) (reaction_faults scope (counted (expression_count x) (counted 1 count)) y) (reaction_faults scope (counted (reaction_count y) (counted (expression_count x) (counted 1 count))) z) here))) t is.0 is.1 is.2 is.3 clean
reaction_nodes-fit scope (binding w r s) count t is clean =
    form_of_four (codes "bind") (λ u. SpellsReaction scope r (operand 2 u) → SpellsReaction (under_binder (name_in (operand 0 u)) scope) s (operand 3 u) → reaction_faults scope count u ≡ [] → IsWithinNodes (counted (reaction_nodes r + reaction_nodes s + 1) count)) (λ pos at x y z v first second here.
    let one : reaction_count z ≡ reaction_nodes r = reaction_count-spelled scope r z first in
    joined_three count 1 (reaction_count z) (reaction_nodes s) (reaction_nodes r + reaction_nodes s + 1) (omega (arith, one)) (reaction_nodes-fit (under_binder (name_in x) scope) s (counted (reaction_count z) (counted 1 count)) v second (last_of_five (node_faults (counted 1 count) pos) (word_faults x) (width_faults greatest_width y) (reaction_faults scope (counted 1 count) z) (reaction_faults (under_binder (name_in x) scope) (counted (reaction_count z) (counted 1 count)) v) here))) t is.0 is.3 is.4 clean

-- ---- protocols

-- the first of three protocols or more has no fault, nor has what stands beside it, where the first one's nodes fit
par_rest : (scope : NameScope) (count : Option ℕ) (pos at : ℕ) (a b c : Located) (ts : Forest) → protocol_faults scope count (group pos (tree (word at (codes "par")) (tree a (tree b (tree c ts))))) ≡ [] → (protocol_faults scope (counted (suc (suc (suc (tree_count ts))) - 1) count) a ≡ []) × (IsWithinNodes (counted (protocol_count a) (counted (suc (suc (suc (tree_count ts))) - 1) count)) → protocol_faults scope (counted (protocol_count a) (counted 1 count)) (group pos (tree (word pos (codes "par")) (tree b (tree c ts)))) ≡ [])
par_rest scope count pos at a b c ts clean =
    let here = counted (suc (suc (suc (tree_count ts))) - 1) count in
    let there = counted (suc (suc (tree_count ts)) - 1) (counted (protocol_count a) (counted 1 count)) in
    let parts = append-clean (tested (nat_le 2 (suc (suc (suc (tree_count ts))))) (form_fault NotAForm pos) ++ node_faults here pos) (protocol_faults scope here a ++ protocols_faults scope (counted (protocol_count a) here) (tree b (tree c ts))) clean in
    let rest = append-clean (protocol_faults scope here a) (protocols_faults scope (counted (protocol_count a) here) (tree b (tree c ts))) parts.1 in (
      rest.0,
      λ fits. head_lists (tested (nat_le 2 (suc (suc (tree_count ts)))) (form_fault NotAForm pos)) (node_faults there pos) (protocols_faults scope there (tree b (tree c ts))) (tested-clean (nat_le 2 (suc (suc (tree_count ts)))) (form_fault NotAForm pos) (le-leb 2 (suc (suc (tree_count ts))) (omega arith))) (node_faults-clean there pos (subst IsWithinNodes (sym (counted_beside count (tree_count ts) (protocol_count a))) fits)) (subst (λ total. protocols_faults scope total (tree b (tree c ts)) ≡ []) (sym (counted_beside count (tree_count ts) (protocol_count a))) rest.1),
    )

-- what stands under the first of two ports or more has no fault
new_rest : (scope : NameScope) (count : Option ℕ) (pos at from : ℕ) (d e : Located) (ds : Forest) (y : Located) → protocol_faults scope count (group pos (tree (word at (codes "new")) (tree (group from (tree d (tree e ds))) (tree y no_trees)))) ≡ [] → protocol_faults scope (counted 1 count) (group pos (tree (word pos (codes "new")) (tree (group pos (tree e ds)) (tree y no_trees)))) ≡ []
new_rest scope count pos at from d e ds y clean =
    let here = counted (suc (suc (tree_count ds))) count in
    let there = counted (suc (tree_count ds)) (counted 1 count) in
    let parts = append-clean (node_faults here pos) (hidden_faults (tree d (tree e ds)) ++ protocol_faults scope here y) clean in
    let rest = append-clean (hidden_faults (tree d (tree e ds))) (protocol_faults scope here y) parts.1 in
    let ports = append-clean (port_faults d) (hidden_faults (tree e ds)) rest.0 in
    part_lists (node_faults there pos) (hidden_faults (tree e ds)) (protocol_faults scope there y) (subst (λ total. node_faults total pos ≡ []) (sym (counted_under count (tree_count ds))) parts.0) ports.1 (subst (λ total. protocol_faults scope total y ≡ []) (sym (counted_under count (tree_count ds))) rest.1)

pub protocol_nodes-fit : (scope : NameScope) (p : Protocol) (count : Option ℕ) (t : Located) → SpellsProtocol scope p t → protocol_faults scope count t ≡ [] → IsWithinNodes (counted (protocol_nodes p) count)
protocol_nodes-fit scope nil count t is clean =
    form_of_none (codes "nil") (λ u. protocol_faults scope count u ≡ [] → IsWithinNodes (counted 1 count)) (λ pos at here. let parts = append-clean (node_faults (counted 1 count) pos) [] here in node_faults-fit (counted 1 count) pos parts.0) t is clean
protocol_nodes-fit scope (assignment c r) count t is clean =
    form_of_two (codes "out") (λ u. SpellsReaction scope r (operand 1 u) → protocol_faults scope count u ≡ [] → IsWithinNodes (counted (reaction_nodes r + 1) count)) (λ pos at a b body here.
    let parts = append-clean (node_faults (counted 1 count) pos) (word_faults a ++ reaction_faults scope (counted 1 count) b) here in
    let rest = append-clean (word_faults a) (reaction_faults scope (counted 1 count) b) parts.1 in
    joined_two count 1 (reaction_nodes r) (reaction_nodes r + 1) (omega arith) (reaction_nodes-fit scope r (counted 1 count) b body rest.1)) t is.0 is.2 clean
protocol_nodes-fit scope (parallel p q) count t is clean =
    form_of_parallel (λ u. SpellsProtocol scope p (operand 0 u) → protocol_faults scope count u ≡ [] → IsWithinNodes (counted (protocol_nodes p + protocol_nodes q + 1) count)) (SpellsProtocol scope q) (λ pos at a b second first here.
    let one : protocol_count a ≡ protocol_nodes p = protocol_count-spelled scope p a first in
    joined_three count 1 (protocol_count a) (protocol_nodes q) (protocol_nodes p + protocol_nodes q + 1) (omega (arith, one)) (protocol_nodes-fit scope q (counted (protocol_count a) (counted 1 count)) b second (last_of_three (node_faults (counted 1 count) pos) (protocol_faults scope (counted 1 count) a) (protocol_faults scope (counted (protocol_count a) (counted 1 count)) b) here))) (λ pos at a b c ts second first here.
    let one : protocol_count a ≡ protocol_nodes p = protocol_count-spelled scope p a first in
    let parts = par_rest scope count pos at a b c ts here in
    let fits = protocol_nodes-fit scope p (counted (suc (suc (suc (tree_count ts))) - 1) count) a first parts.0 in
    joined_three count 1 (protocol_count a) (protocol_nodes q) (protocol_nodes p + protocol_nodes q + 1) (omega (arith, one)) (protocol_nodes-fit scope q (counted (protocol_count a) (counted 1 count)) (group pos (tree (word pos (codes "par")) (tree b (tree c ts)))) second (parts.1 (subst (λ n. IsWithinNodes (counted n (counted (suc (suc (suc (tree_count ts))) - 1) count))) (sym one) fits)))) t is.0 is.2 is.1 clean
protocol_nodes-fit scope (hiding c w p) count t is clean =
    form_of_hiding c w (λ u. protocol_faults scope count u ≡ [] → IsWithinNodes (counted (protocol_nodes p + 1) count)) (SpellsProtocol scope p) (λ pos at from d y port under here.
    let parts = append-clean (node_faults (counted 1 count) pos) (hidden_faults (tree d no_trees) ++ protocol_faults scope (counted 1 count) y) here in
    let rest = append-clean (hidden_faults (tree d no_trees)) (protocol_faults scope (counted 1 count) y) parts.1 in
    joined_two count 1 (protocol_nodes p) (protocol_nodes p + 1) (omega arith) (protocol_nodes-fit scope p (counted 1 count) y under rest.1)) (λ pos at from d e ds y port under here. joined_two count 1 (protocol_nodes p) (protocol_nodes p + 1) (omega arith) (protocol_nodes-fit scope p (counted 1 count) (group pos (tree (word pos (codes "new")) (tree (group pos (tree e ds)) (tree y no_trees)))) under (new_rest scope count pos at from d e ds y here))) t is.0 is.1 is.2 clean
