-- As many nodes are counted in a tree as the term has that it spells.
use Rattle.std.proofs.Common.{◌≡◌, ℕ, suc, ◌+◌, ◌-◌, List, refl, arith}
use Rattle.std.specs.Prelude.{codes}
use Rattle.ipdl_term.specs.Sizes.{expression_nodes, reaction_nodes, protocol_nodes}
use Rattle.ipdl_term.specs.Terms.{Expression, literal, variable, outer, application, exclusive, conjunction, negation, concatenation, segment, equality, selection, Reaction, returning, flipping, reading, branching, binding, Protocol, nil, assignment, parallel, hiding}
use Rattle.ipdl_tree.specs.Trees.{Located, word, group, no_trees, tree}
use Rattle.ipdl_forms.specs.Expressions.{SpellsExpression, expression_count}
use Rattle.ipdl_forms.specs.Lists.{tree_count, name_in, operand, IsForm}
use Rattle.ipdl_forms.specs.Reactions.{SpellsReaction, reaction_count}
use Rattle.ipdl_forms.specs.Protocols.{SpellsProtocol, protocol_count, protocols_count}
use Rattle.ipdl_forms.specs.Scopes.{NameScope, under_binder}
use Rattle.ipdl_forms.specs.Widths.{SpellsWidth}
use Rattle.ipdl_forms.proofs.Forms.{form_of_none, form_of_one, form_of_two, form_of_three, form_of_four, form_of_symbol, form_of_literal, form_of_bound, form_of_free, form_of_width}
use Rattle.ipdl_forms.proofs.ProtocolForms.{form_of_parallel, form_of_hiding}

-- ---- sums

one_more : (a m : ℕ) → a ≡ m → suc (a + 0) ≡ m + 1
one_more a m first = omega arith

two_more : (a b m n : ℕ) → a ≡ m → b ≡ n → suc (a + (b + 0)) ≡ m + n + 1
two_more a b m n first second = omega arith

three_more : (a b c m n k : ℕ) → a ≡ m → b ≡ n → c ≡ k → suc (a + (b + (c + 0))) ≡ m + n + k + 1
three_more a b c m n k first second third = omega arith

cut_more : (a b c m : ℕ) → a ≡ 0 → b ≡ 0 → c ≡ m → suc (a + (b + (c + 0))) ≡ m + 1
cut_more a b c m first second third = omega arith

out_more : (a m : ℕ) → a ≡ m → 1 + a ≡ m + 1
out_more a m body = omega arith

par_two : (a b m n : ℕ) → a ≡ m → b ≡ n → (2 - 1) + (a + (b + 0)) ≡ m + n + 1
par_two a b m n first second = omega arith

-- with one part more than the list that stands beside the first
par_more : (k a b m n : ℕ) → a ≡ m → (suc (suc k) - 1) + b ≡ n → (suc (suc (suc k)) - 1) + (a + b) ≡ m + n + 1
par_more k a b m n first second = omega arith

new_more : (k a m : ℕ) → suc k + a ≡ m → suc (suc k) + a ≡ m + 1
new_more k a m under = omega arith

-- ---- expressions

-- no nodes are counted in a number
width_count : (w : ℕ) (t : Located) → SpellsWidth w t → expression_count t ≡ 0
width_count w t is = form_of_width w (λ u. expression_count u ≡ 0) (λ pos least. refl) t is

-- a list of two expressions
two_count : (head : List ℕ) (m n : ℕ) (P Q : Located → Type 0) → ((x : Located) → P x → expression_count x ≡ m) → ((y : Located) → Q y → expression_count y ≡ n) → (t : Located) → IsForm head 2 t → P (operand 0 t) → Q (operand 1 t) → expression_count t ≡ m + n + 1
two_count head m n P Q first second t form =
    form_of_two head (λ u. P (operand 0 u) → Q (operand 1 u) → expression_count u ≡ m + n + 1) (λ pos at a b left right. two_more (expression_count a) (expression_count b) m n (first a left) (second b right)) t form

pub expression_count-spelled : (scope : NameScope) (e : Expression) (t : Located) → SpellsExpression scope e t → expression_count t ≡ expression_nodes e
expression_count-spelled scope (literal bits) t is =
    form_of_literal bits (λ u. expression_count u ≡ 1) (λ pos. refl) t is
expression_count-spelled scope (variable n) t is =
    form_of_bound scope n (λ u. expression_count u ≡ 1) (λ pos name at. refl) t is
expression_count-spelled scope (outer n) t is =
    form_of_free scope n (λ u. expression_count u ≡ 1) (λ pos name at. refl) t is
expression_count-spelled scope (application f e) t is =
    form_of_symbol scope f (λ u. SpellsExpression scope e (operand 0 u) → expression_count u ≡ expression_nodes e + 1) (λ pos at name a no_operator symbol first. one_more (expression_count a) (expression_nodes e) (expression_count-spelled scope e a first)) t is.0 is.1 is.2
expression_count-spelled scope (exclusive a b) t is =
    two_count (codes "xor") (expression_nodes a) (expression_nodes b) (SpellsExpression scope a) (SpellsExpression scope b) (expression_count-spelled scope a) (expression_count-spelled scope b) t is.0 is.1 is.2
expression_count-spelled scope (conjunction a b) t is =
    two_count (codes "and") (expression_nodes a) (expression_nodes b) (SpellsExpression scope a) (SpellsExpression scope b) (expression_count-spelled scope a) (expression_count-spelled scope b) t is.0 is.1 is.2
expression_count-spelled scope (negation a) t is =
    form_of_one (codes "not") (λ u. SpellsExpression scope a (operand 0 u) → expression_count u ≡ expression_nodes a + 1) (λ pos at x first. one_more (expression_count x) (expression_nodes a) (expression_count-spelled scope a x first)) t is.0 is.1
expression_count-spelled scope (concatenation a b) t is =
    two_count (codes "cat") (expression_nodes a) (expression_nodes b) (SpellsExpression scope a) (SpellsExpression scope b) (expression_count-spelled scope a) (expression_count-spelled scope b) t is.0 is.1 is.2
expression_count-spelled scope (segment i n a) t is =
    form_of_three (codes "cut") (λ u. SpellsWidth i (operand 0 u) → SpellsWidth n (operand 1 u) → SpellsExpression scope a (operand 2 u) → expression_count u ≡ expression_nodes a + 1) (λ pos at x y z from many body. cut_more (expression_count x) (expression_count y) (expression_count z) (expression_nodes a) (width_count i x from) (width_count n y many) (expression_count-spelled scope a z body)) t is.0 is.1 is.2 is.3
expression_count-spelled scope (equality a b) t is =
    two_count (codes "eq") (expression_nodes a) (expression_nodes b) (SpellsExpression scope a) (SpellsExpression scope b) (expression_count-spelled scope a) (expression_count-spelled scope b) t is.0 is.1 is.2
expression_count-spelled scope (selection c a b) t is =
    form_of_three (codes "mux") (λ u. SpellsExpression scope c (operand 0 u) → SpellsExpression scope a (operand 1 u) → SpellsExpression scope b (operand 2 u) → expression_count u ≡ expression_nodes c + expression_nodes a + expression_nodes b + 1) (λ pos at x y z first second third. three_more (expression_count x) (expression_count y) (expression_count z) (expression_nodes c) (expression_nodes a) (expression_nodes b) (expression_count-spelled scope c x first) (expression_count-spelled scope a y second) (expression_count-spelled scope b z third)) t is.0 is.1 is.2 is.3

-- ---- reactions

pub reaction_count-spelled : (scope : NameScope) (r : Reaction) (t : Located) → SpellsReaction scope r t → reaction_count t ≡ reaction_nodes r
reaction_count-spelled scope (returning e) t is =
    form_of_one (codes "ret") (λ u. SpellsExpression scope e (operand 0 u) → reaction_count u ≡ expression_nodes e + 1) (λ pos at a first. one_more (expression_count a) (expression_nodes e) (expression_count-spelled scope e a first)) t is.0 is.1
reaction_count-spelled scope (flipping w) t is =
    form_of_one (codes "flip") (λ u. reaction_count u ≡ 1) (λ pos at a. refl) t is.0
reaction_count-spelled scope (reading c) t is =
    form_of_one (codes "read") (λ u. reaction_count u ≡ 1) (λ pos at a. refl) t is.0
reaction_count-spelled scope (branching e r s) t is =
    form_of_three (codes "if") (λ u. SpellsExpression scope e (operand 0 u) → SpellsReaction scope r (operand 1 u) → SpellsReaction scope s (operand 2 u) → reaction_count u ≡ expression_nodes e + reaction_nodes r + reaction_nodes s + 1) (λ pos at x y z first second third. three_more (expression_count x) (reaction_count y) (reaction_count z) (expression_nodes e) (reaction_nodes r) (reaction_nodes s) (expression_count-spelled scope e x first) (reaction_count-spelled scope r y second) (reaction_count-spelled scope s z third)) t is.0 is.1 is.2 is.3
reaction_count-spelled scope (binding w r s) t is =
    form_of_four (codes "bind") (λ u. SpellsReaction scope r (operand 2 u) → SpellsReaction (under_binder (name_in (operand 0 u)) scope) s (operand 3 u) → reaction_count u ≡ reaction_nodes r + reaction_nodes s + 1) (λ pos at x y z v first second. two_more (reaction_count z) (reaction_count v) (reaction_nodes r) (reaction_nodes s) (reaction_count-spelled scope r z first) (reaction_count-spelled (under_binder (name_in x) scope) s v second)) t is.0 is.3 is.4

-- ---- protocols

pub protocol_count-spelled : (scope : NameScope) (p : Protocol) (t : Located) → SpellsProtocol scope p t → protocol_count t ≡ protocol_nodes p
protocol_count-spelled scope nil t is =
    form_of_none (codes "nil") (λ u. protocol_count u ≡ 1) (λ pos at. refl) t is
protocol_count-spelled scope (assignment c r) t is =
    form_of_two (codes "out") (λ u. SpellsReaction scope r (operand 1 u) → protocol_count u ≡ reaction_nodes r + 1) (λ pos at a b first. out_more (reaction_count b) (reaction_nodes r) (reaction_count-spelled scope r b first)) t is.0 is.2
protocol_count-spelled scope (parallel p q) t is =
    form_of_parallel (λ u. SpellsProtocol scope p (operand 0 u) → protocol_count u ≡ protocol_nodes p + protocol_nodes q + 1) (SpellsProtocol scope q) (λ pos at a b second first. par_two (protocol_count a) (protocol_count b) (protocol_nodes p) (protocol_nodes q) (protocol_count-spelled scope p a first) (protocol_count-spelled scope q b second)) (λ pos at a b c ts second first. par_more (tree_count ts) (protocol_count a) (protocol_count b + (protocol_count c + protocols_count ts)) (protocol_nodes p) (protocol_nodes q) (protocol_count-spelled scope p a first) (protocol_count-spelled scope q (group pos (tree (word pos (codes "par")) (tree b (tree c ts)))) second)) t is.0 is.2 is.1
protocol_count-spelled scope (hiding c w p) t is =
    form_of_hiding c w (λ u. protocol_count u ≡ protocol_nodes p + 1) (SpellsProtocol scope p) (λ pos at from d y port under. out_more (protocol_count y) (protocol_nodes p) (protocol_count-spelled scope p y under)) (λ pos at from d e ds y port under. new_more (tree_count ds) (protocol_count y) (protocol_nodes p) (protocol_count-spelled scope p (group pos (tree (word pos (codes "new")) (tree (group pos (tree e ds)) (tree y no_trees)))) under)) t is.0 is.1 is.2
