-- A tree at which no test of a protocol fails spells one.
use Rattle.std.proofs.Common.{◌≡◌, ℕ, zero, suc, List, [], ◌++◌, refl, subst, arith}
use Rattle.std.specs.Prelude.{Option, codes}
use Rattle.ipdl_term.specs.Terms.{Protocol, nil, assignment, parallel, hiding}
use Rattle.ipdl_tree.specs.Trees.{Located, word, number, literal, group, Forest, no_trees, tree}
use Rattle.ipdl_forms.specs.declared.fault.FormCause.TheVariants.{NotAForm}
use Rattle.ipdl_forms.specs.Counts.{counted, node_faults}
use Rattle.ipdl_forms.specs.Faults.{form_fault, tested, word_faults}
use Rattle.ipdl_forms.specs.Lists.{tree_count, tree_at, name_in}
use Rattle.ipdl_forms.specs.Protocols.{SpellsProtocol, shape_named, has_shape, shape_count, protocol_count, hidden_faults, new_faults, protocol_faults, protocol_part_faults, protocols_faults}
use Rattle.ipdl_forms.specs.Reactions.{reaction_faults}
use Rattle.ipdl_forms.specs.Scopes.{NameScope}
use Rattle.ipdl_forms.specs.Widths.{SpellsPort, greatest_width, width_faults, two_faults, port_faults}
use Rattle.ipdl_forms.proofs.Faults.{append-clean}
use Rattle.ipdl_forms.proofs.ProtocolForms.{beside_first-more, under_first-more}
use Rattle.ipdl_forms.proofs.Spelled.{by_name, count_tested, name_spelled, width_spelled}
use Rattle.ipdl_forms.proofs.SpelledReactions.{reaction_spelled}

abbrev pub IsProtocol : NameScope → Located → Type 0
IsProtocol scope t = (p : Protocol) × SpellsProtocol scope p t

-- ---- ports

abbrev IsPort : Located → Type 0
IsPort t = (c : List ℕ) × (w : ℕ) × SpellsPort c w t

port_spelled : (t : Located) → port_faults t ≡ [] → IsPort t
port_spelled (word pos name) clean = cc
port_spelled (number pos n) clean = cc
port_spelled (literal pos bits) clean = cc
port_spelled (group pos ts) clean =
    let front = append-clean (two_faults pos ts ++ word_faults (tree_at 0 ts)) (width_faults greatest_width (tree_at 1 ts)) clean in
    let head = append-clean (two_faults pos ts) (word_faults (tree_at 0 ts)) front.0 in
    let wide = width_spelled (tree_at 1 ts) front.1 in
    (name_in (tree_at 0 ts), wide.0, (count_tested (tree_count ts) 2 _ head.0, name_spelled (tree_at 0 ts) head.1, wide.1))

-- a protocol under the ports of a `new`
new_spelled : (ds : Forest) (scope : NameScope) (pos at from : ℕ) (d y : Located) → hidden_faults (tree d ds) ≡ [] → IsProtocol scope y → IsProtocol scope (group pos (tree (word at (codes "new")) (tree (group from (tree d ds)) (tree y no_trees))))
new_spelled no_trees scope pos at from d y clean body =
    let port = port_spelled d (append-clean (port_faults d) [] clean).0 in
    (hiding port.0 port.1 body.0, ((refl, refl), port.2, body.1))
new_spelled (tree e ds) scope pos at from d y clean body =
    let parts = append-clean (port_faults d) (hidden_faults (tree e ds)) clean in
    let port = port_spelled d parts.0 in
    let rest = new_spelled ds scope pos pos pos e y parts.1 body in
    (hiding port.0 port.1 rest.0, ((refl, refl), port.2, subst (SpellsProtocol scope rest.0) (under_first-more pos at from d e ds y) rest.1))

-- ---- protocols side by side

abbrev AreProtocols : NameScope → Forest → Type 0
AreProtocols scope no_trees = Unit {0}
AreProtocols scope (tree t ts) = IsProtocol scope t × AreProtocols scope ts

par_spelled : (ts : Forest) (scope : NameScope) (pos at : ℕ) (a b : Located) → AreProtocols scope (tree a (tree b ts)) → IsProtocol scope (group pos (tree (word at (codes "par")) (tree a (tree b ts))))
par_spelled no_trees scope pos at a b are =
    (parallel are.0.0 are.1.0.0, ((refl, omega arith), are.0.1, are.1.0.1))
par_spelled (tree c ts) scope pos at a b are =
    let rest = par_spelled ts scope pos pos b c are.1 in
    (parallel are.0.0 rest.0, ((refl, omega arith), are.0.1, subst (SpellsProtocol scope rest.0) (beside_first-more pos at a b c ts) rest.1))

-- ---- lists by their heads

-- the tests of a list with this head, and what it spells
abbrev ListSpells : NameScope → Option ℕ → (pos at : ℕ) → Forest → List ℕ → Type 0
ListSpells scope count pos at ts name =
    tested (has_shape (shape_named name) (tree_count ts)) (form_fault NotAForm pos) ≡ []
    → protocol_part_faults scope count (shape_named name) ts ≡ [] → IsProtocol scope (group pos (tree (word at name) ts))

nil_spelled : (scope : NameScope) (count : Option ℕ) (pos at : ℕ) (ts : Forest) → ListSpells scope count pos at ts (codes "nil")
nil_spelled scope count pos at ts head rest = (nil, (refl, count_tested (tree_count ts) 0 _ head))

out_spelled : (scope : NameScope) (count : Option ℕ) (pos at : ℕ) (ts : Forest) → ListSpells scope count pos at ts (codes "out")
out_spelled scope count pos at no_trees head rest = cc
out_spelled scope count pos at (tree a no_trees) head rest = cc
out_spelled scope count pos at (tree a (tree b no_trees)) head rest =
    let parts = append-clean (word_faults a) (reaction_faults scope count b) rest in
    let body = reaction_spelled b scope count parts.1 in
    (assignment (name_in a) body.0, ((refl, refl), name_spelled a parts.0, body.1))
out_spelled scope count pos at (tree a (tree b (tree c ts))) head rest =
    absurd (omega (arith, count_tested (tree_count (tree a (tree b (tree c ts)))) 2 _ head))

-- some protocols, once their tests hold
abbrev PartsSpell : NameScope → Option ℕ → Forest → Type 0
PartsSpell scope count ts = protocols_faults scope count ts ≡ [] → AreProtocols scope ts

beside_spelled : (scope : NameScope) (count : Option ℕ) (pos at : ℕ) (ts : Forest) → PartsSpell scope count ts → ListSpells scope count pos at ts (codes "par")
beside_spelled scope count pos at no_trees parts head rest = cc
beside_spelled scope count pos at (tree a no_trees) parts head rest = cc
beside_spelled scope count pos at (tree a (tree b ts)) parts head rest = par_spelled ts scope pos at a b (parts rest)

-- the second part of a list, once its tests hold
abbrev SecondSpells : NameScope → Option ℕ → Forest → Type 0
SecondSpells scope count ts = protocol_faults scope count (tree_at 1 ts) ≡ [] → IsProtocol scope (tree_at 1 ts)

hidden_spelled : (scope : NameScope) (count : Option ℕ) (pos at : ℕ) (ts : Forest) → SecondSpells scope count ts → ListSpells scope count pos at ts (codes "new")
hidden_spelled scope count pos at no_trees body head rest = cc
hidden_spelled scope count pos at (tree a no_trees) body head rest = cc
hidden_spelled scope count pos at (tree a (tree b no_trees)) body head rest =
    let parts = append-clean (new_faults a) (protocol_faults scope count b) rest in
    under a parts.0 (body parts.1)
  where
    under : (x : Located) → new_faults x ≡ [] → IsProtocol scope b → IsProtocol scope (group pos (tree (word at (codes "new")) (tree x (tree b no_trees))))
    under (word from name) clean inner = cc
    under (number from n) clean inner = cc
    under (literal from bits) clean inner = cc
    under (group from no_trees) clean inner = cc
    under (group from (tree d ds)) clean inner = new_spelled ds scope pos at from d b clean inner
hidden_spelled scope count pos at (tree a (tree b (tree c ts))) body head rest =
    absurd (omega (arith, count_tested (tree_count (tree a (tree b (tree c ts)))) 2 _ head))

list_spelled : (scope : NameScope) (count : Option ℕ) (pos at : ℕ) (ts : Forest) (name : List ℕ) → PartsSpell scope count ts → SecondSpells scope count ts → ListSpells scope count pos at ts name
list_spelled scope count pos at ts name parts second =
    let P = ListSpells scope count pos at ts in
    by_name P name (codes "nil") (nil_spelled scope count pos at ts) λ no_nil.
    by_name P name (codes "out") (out_spelled scope count pos at ts) λ no_out.
    by_name P name (codes "par") (beside_spelled scope count pos at ts parts) λ no_par.
    by_name P name (codes "new") (hidden_spelled scope count pos at ts second) λ no_new.
    λ head rest. let wrong = rw (no_nil, no_out, no_par, no_new) at head in cc

mutual
  pub protocol_spelled : (t : Located) (scope : NameScope) (count : Option ℕ) → protocol_faults scope count t ≡ [] → IsProtocol scope t
  protocol_spelled (word pos name) scope count clean = cc
  protocol_spelled (number pos n) scope count clean = cc
  protocol_spelled (literal pos bits) scope count clean = cc
  protocol_spelled (group pos no_trees) scope count clean = cc
  protocol_spelled (group pos (tree (word at name) ts)) scope count clean =
      let form = tested (has_shape (shape_named name) (tree_count ts)) (form_fault NotAForm pos) in
      let now = counted (shape_count (shape_named name) ts) count in
      let front = append-clean (form ++ node_faults now pos) (protocol_part_faults scope now (shape_named name) ts) clean in
      let head = append-clean form (node_faults now pos) front.0 in
      list_spelled scope now pos at ts name (protocols_spelled ts scope now) (protocol_at_spelled ts 1 scope now) head.0 front.1
  protocol_spelled (group pos (tree (number at n) ts)) scope count clean = cc
  protocol_spelled (group pos (tree (literal at bits) ts)) scope count clean = cc
  protocol_spelled (group pos (tree (group at us) ts)) scope count clean = cc

  protocol_at_spelled : (ts : Forest) (n : ℕ) (scope : NameScope) (count : Option ℕ) → protocol_faults scope count (tree_at n ts) ≡ [] → IsProtocol scope (tree_at n ts)
  protocol_at_spelled no_trees n scope count clean = cc
  protocol_at_spelled (tree t ts) zero scope count clean = protocol_spelled t scope count clean
  protocol_at_spelled (tree t ts) (suc n) scope count clean = protocol_at_spelled ts n scope count clean

  protocols_spelled : (ts : Forest) (scope : NameScope) (count : Option ℕ) → protocols_faults scope count ts ≡ [] → AreProtocols scope ts
  protocols_spelled no_trees scope count clean = tt
  protocols_spelled (tree t ts) scope count clean =
      let more = counted (protocol_count t) count in
      let parts = append-clean (protocol_faults scope count t) (protocols_faults scope more ts) clean in
      (protocol_spelled t scope count parts.0, protocols_spelled ts scope more parts.1)
