-- Where a tree spells a protocol whose nodes fit, no test fails.
use Rattle.std.proofs.Common.{◌≡◌, ℕ, suc, ◌+◌, ◌-◌, List, [], ◌++◌, refl, ap, subst, arith}
use Rattle.std.specs.Prelude.{nat_le, Option, Some, None, codes}
use Rattle.std.proofs.lemmas.Bool.{le-leb}
use Rattle.ipdl_term.specs.Sizes.{reaction_nodes, protocol_nodes}
use Rattle.ipdl_term.specs.Terms.{Protocol, nil, assignment, parallel, hiding}
use Rattle.ipdl_tree.specs.Trees.{Located, word, group, Forest, no_trees, tree}
use Rattle.ipdl_forms.specs.declared.fault.DocFault.{DocFault}
use Rattle.ipdl_forms.specs.declared.fault.FormCause.TheVariants.{NotAForm}
use Rattle.ipdl_forms.specs.Counts.{counted, IsWithinNodes, node_faults}
use Rattle.ipdl_forms.specs.Faults.{tested, form_fault, word_faults}
use Rattle.ipdl_forms.specs.Lists.{tree_count, word_in, operand}
use Rattle.ipdl_forms.specs.Protocols.{SpellsProtocol, protocol_count, protocols_count, protocol_faults, protocols_faults, hidden_faults}
use Rattle.ipdl_forms.specs.Reactions.{SpellsReaction, reaction_faults}
use Rattle.ipdl_forms.specs.Scopes.{NameScope}
use Rattle.ipdl_forms.specs.Widths.{SpellsPort, greatest_width, port_faults}
use Rattle.ipdl_forms.proofs.Clean.{within_one, within_two, within_three, tested-clean, node_faults-clean, named_faults-clean, one_list, head_lists, three_lists}
use Rattle.ipdl_forms.proofs.CleanReactions.{reaction_faults-clean}
use Rattle.ipdl_forms.proofs.Faults.{append-clean, clean-append}
use Rattle.ipdl_forms.proofs.Forms.{form_of_none, form_of_two}
use Rattle.ipdl_forms.proofs.NodeCounts.{protocol_count-spelled}
use Rattle.ipdl_forms.proofs.ProtocolForms.{form_of_parallel, form_of_hiding, form_of_port}

-- ---- ports

pub port_faults-clean : (c : List ℕ) (w : ℕ) (t : Located) → SpellsPort c w t → port_faults t ≡ []
port_faults-clean c w t is =
    form_of_port c w (λ u. port_faults u ≡ []) (λ pos at from least. tested-clean (nat_le w greatest_width) _ (le-leb w greatest_width least)) t is

-- ---- lists

-- three lists, the last two of them together
pub part_lists : (f g h : List DocFault) → f ≡ [] → g ≡ [] → h ≡ [] → f ++ (g ++ h) ≡ []
part_lists f g h one two three = rw (one, two, three) refl

-- the nodes of a list with one part more, when those of the first part are counted
pub counted_beside : (count : Option ℕ) (k a : ℕ) → counted (suc (suc k) - 1) (counted a (counted 1 count)) ≡ counted a (counted (suc (suc (suc k)) - 1) count)
counted_beside None k a = refl
counted_beside (Some n) k a =
    let same : n + 1 + a + (suc (suc k) - 1) ≡ n + (suc (suc (suc k)) - 1) + a = omega arith in
    ap Some same

-- the nodes of a list with one port more
pub counted_under : (count : Option ℕ) (k : ℕ) → counted (suc k) (counted 1 count) ≡ counted (suc (suc k)) count
counted_under None k = refl
counted_under (Some n) k =
    let same : n + 1 + suc k ≡ n + suc (suc k) = omega arith in
    ap Some same

-- a list of three protocols or more, of which those beside the first one have no fault
par_clean : (scope : NameScope) (count : Option ℕ) (pos at : ℕ) (a b c : Located) (ts : Forest) → IsWithinNodes (counted (suc (suc (suc (tree_count ts))) - 1) count) → protocol_faults scope (counted (suc (suc (suc (tree_count ts))) - 1) count) a ≡ [] → protocol_faults scope (counted (protocol_count a) (counted 1 count)) (group pos (tree (word pos (codes "par")) (tree b (tree c ts)))) ≡ [] → protocol_faults scope count (group pos (tree (word at (codes "par")) (tree a (tree b (tree c ts))))) ≡ []
par_clean scope count pos at a b c ts fits first beside =
    let k = tree_count ts in
    let here = counted (suc (suc (suc (tree_count ts))) - 1) count in
    let there = counted (suc (suc (tree_count ts)) - 1) (counted (protocol_count a) (counted 1 count)) in
    let parts = append-clean (tested (nat_le 2 (suc (suc (tree_count ts)))) (form_fault NotAForm pos) ++ node_faults there pos) (protocols_faults scope there (tree b (tree c ts))) beside in
    head_lists (tested (nat_le 2 (suc (suc (suc (tree_count ts))))) (form_fault NotAForm pos)) (node_faults here pos) (protocol_faults scope here a ++ protocols_faults scope (counted (protocol_count a) here) (tree b (tree c ts))) (tested-clean (nat_le 2 (suc (suc (suc (tree_count ts))))) (form_fault NotAForm pos) (le-leb 2 (suc (suc (suc (tree_count ts)))) (omega arith))) (node_faults-clean here pos fits) (clean-append (protocol_faults scope here a) (protocols_faults scope (counted (protocol_count a) here) (tree b (tree c ts))) first (subst (λ total. protocols_faults scope total (tree b (tree c ts)) ≡ []) (counted_beside count (tree_count ts) (protocol_count a)) parts.1))

-- a list of two ports or more, of which those after the first one have no fault
new_clean : (scope : NameScope) (count : Option ℕ) (pos at from : ℕ) (d e : Located) (ds : Forest) (y : Located) → IsWithinNodes (counted (suc (suc (tree_count ds))) count) → port_faults d ≡ [] → protocol_faults scope (counted 1 count) (group pos (tree (word pos (codes "new")) (tree (group pos (tree e ds)) (tree y no_trees)))) ≡ [] → protocol_faults scope count (group pos (tree (word at (codes "new")) (tree (group from (tree d (tree e ds))) (tree y no_trees)))) ≡ []
new_clean scope count pos at from d e ds y fits port under =
    let here = counted (suc (suc (tree_count ds))) count in
    let there = counted (suc (tree_count ds)) (counted 1 count) in
    let parts = append-clean (node_faults there pos) (hidden_faults (tree e ds) ++ protocol_faults scope there y) under in
    let rest = append-clean (hidden_faults (tree e ds)) (protocol_faults scope there y) parts.1 in
    part_lists (node_faults here pos) (hidden_faults (tree d (tree e ds))) (protocol_faults scope here y) (node_faults-clean here pos fits) (clean-append (port_faults d) (hidden_faults (tree e ds)) port rest.0) (subst (λ total. protocol_faults scope total y ≡ []) (counted_under count (tree_count ds)) rest.1)

-- ---- protocols

pub protocol_faults-clean : (scope : NameScope) (p : Protocol) (count : Option ℕ) (t : Located) → SpellsProtocol scope p t → IsWithinNodes (counted (protocol_nodes p) count) → protocol_faults scope count t ≡ []
protocol_faults-clean scope nil count t is fits =
    form_of_none (codes "nil") (λ u. protocol_faults scope count u ≡ []) (λ pos at. one_list (node_faults (counted 1 count) pos) (node_faults-clean (counted 1 count) pos fits)) t is
protocol_faults-clean scope (assignment c r) count t is fits =
    form_of_two (codes "out") (λ u. word_in (operand 0 u) ≡ Some c → SpellsReaction scope r (operand 1 u) → protocol_faults scope count u ≡ []) (λ pos at a b named body. part_lists (node_faults (counted 1 count) pos) (word_faults a) (reaction_faults scope (counted 1 count) b) (node_faults-clean (counted 1 count) pos (within_one count 1 (reaction_nodes r + 1) (omega arith) fits)) (named_faults-clean c a named) (reaction_faults-clean scope r (counted 1 count) b body (within_two count 1 (reaction_nodes r) (reaction_nodes r + 1) (omega arith) fits))) t is.0 is.1 is.2
protocol_faults-clean scope (parallel p q) count t is fits =
    form_of_parallel (λ u. SpellsProtocol scope p (operand 0 u) → protocol_faults scope count u ≡ []) (SpellsProtocol scope q) (λ pos at a b second first.
    let one : protocol_count a ≡ protocol_nodes p = protocol_count-spelled scope p a first in
    let all = protocol_nodes p + protocol_nodes q + 1 in
    three_lists (node_faults (counted 1 count) pos) (protocol_faults scope (counted 1 count) a) (protocol_faults scope (counted (protocol_count a) (counted 1 count)) b) (node_faults-clean (counted 1 count) pos (within_one count 1 all (omega arith) fits)) (protocol_faults-clean scope p (counted 1 count) a first (within_two count 1 (protocol_nodes p) all (omega arith) fits)) (protocol_faults-clean scope q (counted (protocol_count a) (counted 1 count)) b second (within_three count 1 (protocol_count a) (protocol_nodes q) all (omega (arith, one)) fits))) (λ pos at a b c ts second first.
    let one : protocol_count a ≡ protocol_nodes p = protocol_count-spelled scope p a first in
    let beside = group pos (tree (word pos (codes "par")) (tree b (tree c ts))) in
    let two : (suc (suc (tree_count ts)) - 1) + (protocol_count b + (protocol_count c + protocols_count ts)) ≡ protocol_nodes q = protocol_count-spelled scope q (group pos (tree (word pos (codes "par")) (tree b (tree c ts)))) second in
    let all = protocol_nodes p + protocol_nodes q + 1 in
    par_clean scope count pos at a b c ts (within_one count (suc (suc (suc (tree_count ts))) - 1) all (omega (arith, two)) fits) (protocol_faults-clean scope p (counted (suc (suc (suc (tree_count ts))) - 1) count) a first (within_two count (suc (suc (suc (tree_count ts))) - 1) (protocol_nodes p) all (omega (arith, two)) fits)) (protocol_faults-clean scope q (counted (protocol_count a) (counted 1 count)) (group pos (tree (word pos (codes "par")) (tree b (tree c ts)))) second (within_three count 1 (protocol_count a) (protocol_nodes q) all (omega (arith, one)) fits))) t is.0 is.2 is.1
protocol_faults-clean scope (hiding c w p) count t is fits =
    form_of_hiding c w (λ u. protocol_faults scope count u ≡ []) (SpellsProtocol scope p) (λ pos at from d y port under. part_lists (node_faults (counted 1 count) pos) (hidden_faults (tree d no_trees)) (protocol_faults scope (counted 1 count) y) (node_faults-clean (counted 1 count) pos (within_one count 1 (protocol_nodes p + 1) (omega arith) fits)) (one_list (port_faults d) (port_faults-clean c w d port)) (protocol_faults-clean scope p (counted 1 count) y under (within_two count 1 (protocol_nodes p) (protocol_nodes p + 1) (omega arith) fits))) (λ pos at from d e ds y port under.
    let one : suc (tree_count ds) + protocol_count y ≡ protocol_nodes p = protocol_count-spelled scope p (group pos (tree (word pos (codes "new")) (tree (group pos (tree e ds)) (tree y no_trees)))) under in
    new_clean scope count pos at from d e ds y (within_one count (suc (suc (tree_count ds))) (protocol_nodes p + 1) (omega (arith, one)) fits) (port_faults-clean c w d port) (protocol_faults-clean scope p (counted 1 count) (group pos (tree (word pos (codes "new")) (tree (group pos (tree e ds)) (tree y no_trees)))) under (within_two count 1 (protocol_nodes p) (protocol_nodes p + 1) (omega arith) fits))) t is.0 is.1 is.2
