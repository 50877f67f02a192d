-- What the reader says of protocols, assumptions and theorems, from what it read of their parts.
use Rattle.std.proofs.Common.{◌≡◌, ℕ, List, [], ◌∷◌, ◌++◌, Some, Result, Ok, Err, refl, sym, subst}
use Rattle.std.specs.Prelude.{IfOk, OnOk, IfErr}
use Rattle.std.specs.Prelude.{codes}
use Rattle.ipdl_term.specs.declared.interface.Interface.{Interface}
use Rattle.ipdl_term.specs.Steps.{Step}
use Rattle.ipdl_term.specs.Terms.{Protocol}
use Rattle.ipdl_tree.specs.declared.tree.Tree.{Tree}
use Rattle.ipdl_tree.specs.Trees.{word, group, tree}
use Rattle.ipdl_tree.specs.Views.{located, all_located}
use Rattle.ipdl_forms.specs.declared.document.AssumeItem.{AssumeItem}
use Rattle.ipdl_forms.specs.declared.fault.DocFault.{DocFault}
use Rattle.ipdl_forms.specs.Documents.{protocol_entry, assumption_entry, theorem_entry}
use Rattle.ipdl_forms.specs.Faults.{TellsFirst}
use Rattle.ipdl_forms.specs.Items.{SpellsEntry, SpellsNewName, SpellsInterface, body_scope, protocol_form, assume_form, theorem_form, item_name_faults, interface_faults}
use Rattle.ipdl_forms.specs.Lists.{tree_count, operands}
use Rattle.ipdl_read.specs.Parts.{SpellsNamed, form_faults, named_faults}
use Rattle.ipdl_forms.specs.Protocols.{SpellsProtocol, protocol_faults}
use Rattle.ipdl_forms.specs.Steps.{Earlier, SpellsSide, side_faults}
use Rattle.ipdl_forms.proofs.Faults.{TellsFirst-in_front, TellsFirst-after, clean-append}

-- ---- protocols

-- the four parts of a protocol
abbrev four : (a b c d : Tree) → List Tree
four a b c d = a ∷ b ∷ c ∷ d ∷ []

pub protocol_first_interface : (fault : DocFault) (earlier : Earlier) (pos : ℕ) (xs : List Tree) (a b c d : Tree) → xs ≡ four a b c d → item_name_faults earlier (located a) ≡ [] → TellsFirst fault (interface_faults (located b) (located c)) → TellsFirst fault (form_faults earlier protocol_form pos (all_located xs))
protocol_first_interface fault earlier pos xs a b c d are named first =
    let N = item_name_faults earlier (located a) in
    let I = interface_faults (located b) (located c) in
    let B = protocol_faults (body_scope earlier) (Some 0) (located d) in
    subst (λ ys. TellsFirst fault (form_faults earlier protocol_form pos (all_located ys))) (sym are)
    (TellsFirst-in_front fault (N ++ I) B (TellsFirst-after fault N I named first))

pub protocol_first_body : (fault : DocFault) (earlier : Earlier) (pos : ℕ) (xs : List Tree) (a b c d : Tree) → xs ≡ four a b c d → item_name_faults earlier (located a) ≡ [] → interface_faults (located b) (located c) ≡ [] → TellsFirst fault (protocol_faults (body_scope earlier) (Some 0) (located d)) → TellsFirst fault (form_faults earlier protocol_form pos (all_located xs))
protocol_first_body fault earlier pos xs a b c d are named clean first =
    let N = item_name_faults earlier (located a) in
    let I = interface_faults (located b) (located c) in
    let B = protocol_faults (body_scope earlier) (Some 0) (located d) in
    subst (λ ys. TellsFirst fault (form_faults earlier protocol_form pos (all_located ys))) (sym are)
    (TellsFirst-after fault (N ++ I) B (clean-append N I named clean) first)

pub protocol_none : (earlier : Earlier) (pos : ℕ) (xs : List Tree) (a b c d : Tree) → xs ≡ four a b c d → item_name_faults earlier (located a) ≡ [] → interface_faults (located b) (located c) ≡ [] → protocol_faults (body_scope earlier) (Some 0) (located d) ≡ [] → form_faults earlier protocol_form pos (all_located xs) ≡ []
protocol_none earlier pos xs a b c d are named clean body =
    let N = item_name_faults earlier (located a) in
    let I = interface_faults (located b) (located c) in
    let B = protocol_faults (body_scope earlier) (Some 0) (located d) in
    subst (λ ys. form_faults earlier protocol_form pos (all_located ys) ≡ []) (sym are)
    (clean-append (N ++ I) B (clean-append N I named clean) body)

pub protocol_spelled : (earlier : Earlier) (pos head : ℕ) (xs : List Tree) (a b c d : Tree) (name : List ℕ) (interface : Interface) (body : Protocol) → xs ≡ four a b c d → SpellsNewName earlier name (located a) → SpellsInterface interface (located b) (located c) → SpellsProtocol (body_scope earlier) body (located d) → SpellsEntry earlier (protocol_entry name interface body) (group pos (tree (word head (codes "protocol")) (all_located xs)))
protocol_spelled earlier pos head xs a b c d name interface body are named ports spelled =
    subst (λ ys. SpellsEntry earlier (protocol_entry name interface body) (group pos (tree (word head (codes "protocol")) (all_located ys)))) (sym are)
    ((refl, refl), named, ports, spelled)

-- ---- assumptions

-- the three parts of an assumption
abbrev three : (a b c : Tree) → List Tree
three a b c = a ∷ b ∷ c ∷ []

pub assumption_first : (fault : DocFault) (earlier : Earlier) (pos : ℕ) (xs : List Tree) (a b c : Tree) → xs ≡ three a b c → TellsFirst fault (named_faults earlier (located a) (located b) (located c)) → TellsFirst fault (form_faults earlier assume_form pos (all_located xs))
assumption_first fault earlier pos xs a b c are first =
    subst (λ ys. TellsFirst fault (form_faults earlier assume_form pos (all_located ys))) (sym are) first

pub assumption_none : (earlier : Earlier) (pos : ℕ) (xs : List Tree) (a b c : Tree) → xs ≡ three a b c → named_faults earlier (located a) (located b) (located c) ≡ [] → form_faults earlier assume_form pos (all_located xs) ≡ []
assumption_none earlier pos xs a b c are clean =
    subst (λ ys. form_faults earlier assume_form pos (all_located ys) ≡ []) (sym are) clean

pub assumption_spelled : (earlier : Earlier) (pos head : ℕ) (xs : List Tree) (a b c : Tree) (name left right : List ℕ) → xs ≡ three a b c → SpellsNamed earlier name left right (located a) (located b) (located c) → SpellsEntry earlier (assumption_entry name left right) (group pos (tree (word head (codes "assume")) (all_located xs)))
assumption_spelled earlier pos head xs a b c name left right are named =
    subst (λ ys. SpellsEntry earlier (assumption_entry name left right) (group pos (tree (word head (codes "assume")) (all_located ys)))) (sym are)
    ((refl, refl), named.0, (named.1, named.2, named.3, named.4))

-- what the reader of an assumption says, from what it read of the three parts
pub assumption_answer : (earlier : Earlier) (pos : ℕ) (xs : List Tree) (a b c : Tree) → xs ≡ three a b c → (result : Result AssumeItem DocFault) → IfOk result (λ n. SpellsNamed earlier n.name n.left n.right (located a) (located b) (located c)) → OnOk result (named_faults earlier (located a) (located b) (located c) ≡ []) → IfErr result (λ fault. TellsFirst fault (named_faults earlier (located a) (located b) (located c))) → record {
  spelled : IfOk result (λ n. (head : ℕ) → SpellsEntry earlier (assumption_entry n.name n.left n.right) (group pos (tree (word head (codes "assume")) (all_located xs))));
  clean : OnOk result (form_faults earlier assume_form pos (all_located xs) ≡ []);
  first : IfErr result (λ fault. TellsFirst fault (form_faults earlier assume_form pos (all_located xs)));
}
assumption_answer earlier pos xs a b c are (Ok n) spelled clean first =
    record { spelled = λ head. assumption_spelled earlier pos head xs a b c n.name n.left n.right are spelled; clean = assumption_none earlier pos xs a b c are clean; first = tt }
assumption_answer earlier pos xs a b c are (Err fault) spelled clean first =
    record { spelled = tt; clean = tt; first = assumption_first fault earlier pos xs a b c are first }

-- ---- theorems

-- the five parts of a theorem
abbrev five : (a b c d e : Tree) → List Tree
five a b c d e = a ∷ b ∷ c ∷ d ∷ e ∷ []

pub theorem_first_named : (fault : DocFault) (earlier : Earlier) (pos : ℕ) (xs : List Tree) (a b c d e : Tree) → xs ≡ five a b c d e → TellsFirst fault (named_faults earlier (located a) (located b) (located c)) → TellsFirst fault (form_faults earlier theorem_form pos (all_located xs))
theorem_first_named fault earlier pos xs a b c d e are first =
    let N = named_faults earlier (located a) (located b) (located c) in
    let S = side_faults earlier (codes "left") 0 (located d) in
    let T = side_faults earlier (codes "right") (tree_count (operands (located d))) (located e) in
    subst (λ ys. TellsFirst fault (form_faults earlier theorem_form pos (all_located ys))) (sym are)
    (TellsFirst-in_front fault (N ++ S) T (TellsFirst-in_front fault N S first))

pub theorem_first_lefts : (fault : DocFault) (earlier : Earlier) (pos : ℕ) (xs : List Tree) (a b c d e : Tree) → xs ≡ five a b c d e → named_faults earlier (located a) (located b) (located c) ≡ [] → TellsFirst fault (side_faults earlier (codes "left") 0 (located d)) → TellsFirst fault (form_faults earlier theorem_form pos (all_located xs))
theorem_first_lefts fault earlier pos xs a b c d e are named first =
    let N = named_faults earlier (located a) (located b) (located c) in
    let S = side_faults earlier (codes "left") 0 (located d) in
    let T = side_faults earlier (codes "right") (tree_count (operands (located d))) (located e) in
    subst (λ ys. TellsFirst fault (form_faults earlier theorem_form pos (all_located ys))) (sym are)
    (TellsFirst-in_front fault (N ++ S) T (TellsFirst-after fault N S named first))

pub theorem_first_rights : (fault : DocFault) (earlier : Earlier) (pos : ℕ) (xs : List Tree) (a b c d e : Tree) → xs ≡ five a b c d e → named_faults earlier (located a) (located b) (located c) ≡ [] → side_faults earlier (codes "left") 0 (located d) ≡ [] → (before : ℕ) → before ≡ tree_count (operands (located d)) → TellsFirst fault (side_faults earlier (codes "right") before (located e)) → TellsFirst fault (form_faults earlier theorem_form pos (all_located xs))
theorem_first_rights fault earlier pos xs a b c d e are named lefts before count first =
    let N = named_faults earlier (located a) (located b) (located c) in
    let S = side_faults earlier (codes "left") 0 (located d) in
    let T = side_faults earlier (codes "right") (tree_count (operands (located d))) (located e) in
    let counted = subst (λ n. TellsFirst fault (side_faults earlier (codes "right") n (located e))) count first in
    subst (λ ys. TellsFirst fault (form_faults earlier theorem_form pos (all_located ys))) (sym are)
    (TellsFirst-after fault (N ++ S) T (clean-append N S named lefts) counted)

pub theorem_none : (earlier : Earlier) (pos : ℕ) (xs : List Tree) (a b c d e : Tree) → xs ≡ five a b c d e → named_faults earlier (located a) (located b) (located c) ≡ [] → side_faults earlier (codes "left") 0 (located d) ≡ [] → (before : ℕ) → before ≡ tree_count (operands (located d)) → side_faults earlier (codes "right") before (located e) ≡ [] → form_faults earlier theorem_form pos (all_located xs) ≡ []
theorem_none earlier pos xs a b c d e are named lefts before count clean =
    let N = named_faults earlier (located a) (located b) (located c) in
    let S = side_faults earlier (codes "left") 0 (located d) in
    let T = side_faults earlier (codes "right") (tree_count (operands (located d))) (located e) in
    let counted = subst (λ n. side_faults earlier (codes "right") n (located e) ≡ []) count clean in
    subst (λ ys. form_faults earlier theorem_form pos (all_located ys) ≡ []) (sym are)
    (clean-append (N ++ S) T (clean-append N S named lefts) counted)

pub theorem_spelled : (earlier : Earlier) (pos head : ℕ) (xs : List Tree) (a b c d e : Tree) (name left right : List ℕ) (lefts rights : List Step) → xs ≡ five a b c d e → SpellsNamed earlier name left right (located a) (located b) (located c) → SpellsSide earlier (codes "left") lefts (located d) → SpellsSide earlier (codes "right") rights (located e) → SpellsEntry earlier (theorem_entry name left right lefts rights) (group pos (tree (word head (codes "theorem")) (all_located xs)))
theorem_spelled earlier pos head xs a b c d e name left right lefts rights are named left_side right_side =
    subst (λ ys. SpellsEntry earlier (theorem_entry name left right lefts rights) (group pos (tree (word head (codes "theorem")) (all_located ys)))) (sym are)
    ((refl, refl), named.0, (named.1, named.2, named.3, named.4), left_side, right_side)
