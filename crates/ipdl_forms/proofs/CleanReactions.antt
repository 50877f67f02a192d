-- Where a tree spells a reaction whose nodes fit, no test fails.
use Rattle.std.proofs.Common.{◌≡◌, ℕ, ◌+◌, [], arith}
use Rattle.std.specs.Prelude.{true, Option, Some, codes}
use Rattle.ipdl_term.specs.Sizes.{expression_nodes, reaction_nodes}
use Rattle.ipdl_term.specs.Terms.{Reaction, returning, flipping, reading, branching, binding}
use Rattle.ipdl_tree.specs.Trees.{Located}
use Rattle.ipdl_forms.specs.Counts.{counted, IsWithinNodes, node_faults}
use Rattle.ipdl_forms.specs.Expressions.{SpellsExpression, expression_count, expression_faults}
use Rattle.ipdl_forms.specs.Faults.{word_faults}
use Rattle.ipdl_forms.specs.Lists.{name_in, is_word, word_in, operand}
use Rattle.ipdl_forms.specs.Reactions.{SpellsReaction, reaction_count, reaction_faults}
use Rattle.ipdl_forms.specs.Scopes.{NameScope, under_binder}
use Rattle.ipdl_forms.specs.Widths.{SpellsWidth, greatest_width, width_faults}
use Rattle.ipdl_forms.proofs.Clean.{within_one, within_two, within_three, within_four, node_faults-clean, width_faults-clean, word_faults-clean, named_faults-clean, two_lists, four_lists, five_lists, expression_faults-clean}
use Rattle.ipdl_forms.proofs.Forms.{form_of_one, form_of_three, form_of_four}
use Rattle.ipdl_forms.proofs.NodeCounts.{expression_count-spelled, reaction_count-spelled}

pub reaction_faults-clean : (scope : NameScope) (r : Reaction) (count : Option ℕ) (t : Located) → SpellsReaction scope r t → IsWithinNodes (counted (reaction_nodes r) count) → reaction_faults scope count t ≡ []
reaction_faults-clean scope (returning e) count t is fits =
    form_of_one (codes "ret") (λ u. SpellsExpression scope e (operand 0 u) → reaction_faults scope count u ≡ []) (λ pos at a first. two_lists (node_faults (counted 1 count) pos) (expression_faults scope (counted 1 count) a) (node_faults-clean (counted 1 count) pos (within_one count 1 (expression_nodes e + 1) (omega arith) fits)) (expression_faults-clean scope e (counted 1 count) a first (within_two count 1 (expression_nodes e) (expression_nodes e + 1) (omega arith) fits))) t is.0 is.1
reaction_faults-clean scope (flipping w) count t is fits =
    form_of_one (codes "flip") (λ u. SpellsWidth w (operand 0 u) → reaction_faults scope count u ≡ []) (λ pos at a first. two_lists (node_faults (counted 1 count) pos) (width_faults greatest_width a) (node_faults-clean (counted 1 count) pos fits) (width_faults-clean w a first)) t is.0 is.1
reaction_faults-clean scope (reading c) count t is fits =
    form_of_one (codes "read") (λ u. word_in (operand 0 u) ≡ Some c → reaction_faults scope count u ≡ []) (λ pos at a first. two_lists (node_faults (counted 1 count) pos) (word_faults a) (node_faults-clean (counted 1 count) pos fits) (named_faults-clean c a first)) t is.0 is.1
reaction_faults-clean scope (branching e r s) count t is fits =
    form_of_three (codes "if") (λ u. SpellsExpression scope e (operand 0 u) → SpellsReaction scope r (operand 1 u) → SpellsReaction scope s (operand 2 u) → reaction_faults scope count u ≡ []) (λ pos at x y z first second third.
    let one : expression_count x ≡ expression_nodes e = expression_count-spelled scope e x first in
    let two : reaction_count y ≡ reaction_nodes r = reaction_count-spelled scope r y second in
    let all = expression_nodes e + reaction_nodes r + reaction_nodes s + 1 in
    four_lists (node_faults (counted 1 count) pos) (expression_faults scope (counted 1 count) x) (reaction_faults scope (counted (expression_count x) (counted 1 count)) y) (reaction_faults scope (counted (reaction_count y) (counted (expression_count x) (counted 1 count))) z) (node_faults-clean (counted 1 count) pos (within_one count 1 all (omega arith) fits)) (expression_faults-clean scope e (counted 1 count) x first (within_two count 1 (expression_nodes e) all (omega arith) fits)) (reaction_faults-clean scope r (counted (expression_count x) (counted 1 count)) y second (within_three count 1 (expression_count x) (reaction_nodes r) all (omega (arith, one)) fits)) (reaction_faults-clean scope s (counted (reaction_count y) (counted (expression_count x) (counted 1 count))) z third (within_four count 1 (expression_count x) (reaction_count y) (reaction_nodes s) all (omega (arith, one, two)) fits))) t is.0 is.1 is.2 is.3
reaction_faults-clean scope (binding w r s) count t is fits =
    form_of_four (codes "bind") (λ u. is_word (operand 0 u) ≡ true → SpellsWidth w (operand 1 u) → SpellsReaction scope r (operand 2 u) → SpellsReaction (under_binder (name_in (operand 0 u)) scope) s (operand 3 u) → reaction_faults scope count u ≡ []) (λ pos at x y z v named wide first second.
    let one : reaction_count z ≡ reaction_nodes r = reaction_count-spelled scope r z first in
    let all = reaction_nodes r + reaction_nodes s + 1 in
    five_lists (node_faults (counted 1 count) pos) (word_faults x) (width_faults greatest_width y) (reaction_faults scope (counted 1 count) z) (reaction_faults (under_binder (name_in x) scope) (counted (reaction_count z) (counted 1 count)) v) (node_faults-clean (counted 1 count) pos (within_one count 1 all (omega arith) fits)) (word_faults-clean x named) (width_faults-clean w y wide) (reaction_faults-clean scope r (counted 1 count) z first (within_two count 1 (reaction_nodes r) all (omega arith) fits)) (reaction_faults-clean (under_binder (name_in x) scope) s (counted (reaction_count z) (counted 1 count)) v second (within_three count 1 (reaction_count z) (reaction_nodes s) all (omega (arith, one)) fits))) t is.0 is.1 is.2 is.3 is.4
