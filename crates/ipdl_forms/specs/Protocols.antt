-- Which trees spell a protocol, and the tests of one in reading order.
use Rattle.std.specs.Prelude.{◌≡◌, ℕ, ◌+◌, ◌-◌, ◌==◌, nat_le, Bool, false, List, [], ◌∷◌, ◌++◌, codes, bytes_eq, Option, Some, None, if◌then◌else◌}
use Rattle.ipdl_term.specs.Terms.{Protocol, nil, assignment, parallel, hiding}
use Rattle.ipdl_tree.specs.Trees.{Located, word, number, literal, group, Forest, no_trees, tree, offset_of}
use Rattle.ipdl_forms.specs.declared.fault.FormCause.TheVariants.{NotAForm}
use Rattle.ipdl_forms.specs.declared.fault.DocFault.{DocFault}
use Rattle.ipdl_forms.specs.Counts.{counted, node_faults}
use Rattle.ipdl_forms.specs.Faults.{form_fault, tested, word_faults}
use Rattle.ipdl_forms.specs.Lists.{tree_count, tree_at, without_first, parts_of, word_in, name_in, operands, operand, IsForm, IsLongForm}
use Rattle.ipdl_forms.specs.Reactions.{SpellsReaction, reaction_count, reaction_faults}
use Rattle.ipdl_forms.specs.Scopes.{NameScope}
use Rattle.ipdl_forms.specs.Widths.{SpellsPort, port_faults}

-- ---- what is spelled

-- `(par P Q R)` is written for `(par P (par Q R))`: what stands beside the first part
abbrev pub beside_first : Located → Located
beside_first t =
    if tree_count (operands t) == 2 then operand 1 t
    else group (offset_of t) (tree (word (offset_of t) (codes "par")) (without_first (operands t)))

-- the ports of a `new`
abbrev pub ports_in : Located → Forest
ports_in t = parts_of (operand 0 t)

-- `(new ((c v) (d w)) P)` is written for `(new ((c v)) (new ((d w)) P))`: what stands under the first port
abbrev pub under_first : Located → Located
under_first t =
    if tree_count (ports_in t) == 1 then operand 1 t
    else group (offset_of t)
    (tree (word (offset_of t) (codes "new"))
    (tree (group (offset_of t) (without_first (ports_in t))) (tree (operand 1 t) no_trees)))

abbrev pub SpellsProtocol : NameScope → Protocol → Located → Type 0
SpellsProtocol scope nil t = IsForm (codes "nil") 0 t
SpellsProtocol scope (assignment c r) t =
    IsForm (codes "out") 2 t × (word_in (operand 0 t) ≡ Some c) × SpellsReaction scope r (operand 1 t)
SpellsProtocol scope (parallel p q) t =
    IsLongForm (codes "par") 2 t × SpellsProtocol scope p (operand 0 t) × SpellsProtocol scope q (beside_first t)
SpellsProtocol scope (hiding c w p) t =
    IsForm (codes "new") 2 t × SpellsPort c w (tree_at 0 (ports_in t)) × SpellsProtocol scope p (under_first t)

-- ---- the tests

-- which protocol a list is, by its head
pub data Shape : Type 0 where
  nil_shape : Shape
  out_shape : Shape
  par_shape : Shape
  new_shape : Shape

abbrev pub shape_named : List ℕ → Option Shape
shape_named name =
    if bytes_eq name (codes "nil") then Some nil_shape
    else (if bytes_eq name (codes "out") then Some out_shape
    else (if bytes_eq name (codes "par") then Some par_shape
    else (if bytes_eq name (codes "new") then Some new_shape
    else None)))

-- whether a list of the shape may have so many parts after its head
abbrev pub has_shape : Option Shape → ℕ → Bool
has_shape None count = false
has_shape (Some nil_shape) count = count == 0
has_shape (Some out_shape) count = count == 2
has_shape (Some par_shape) count = nat_le 2 count
has_shape (Some new_shape) count = count == 2

-- how many ports a `new` has, or one where no list of them stands there
abbrev pub port_count : Located → ℕ
port_count (word pos name) = 1
port_count (number pos n) = 1
port_count (literal pos bits) = 1
port_count (group pos ts) = tree_count ts

-- how many nodes a list stands for by itself
abbrev pub shape_count : Option Shape → Forest → ℕ
shape_count None ts = 0
shape_count (Some nil_shape) ts = 1
shape_count (Some out_shape) ts = 1
shape_count (Some par_shape) ts = tree_count ts - 1
shape_count (Some new_shape) ts = port_count (tree_at 0 ts)

-- how many nodes are counted in the tree of a protocol
abbrev mutual
  pub protocol_count : Located → ℕ
  protocol_count (word pos name) = 0
  protocol_count (number pos n) = 0
  protocol_count (literal pos bits) = 0
  protocol_count (group pos no_trees) = 0
  protocol_count (group pos (tree t ts)) =
      shape_count (shape_named (name_in t)) ts + protocol_part_count (shape_named (name_in t)) ts

  pub protocol_part_count : Option Shape → Forest → ℕ
  protocol_part_count (Some out_shape) (tree a (tree b no_trees)) = reaction_count b
  protocol_part_count (Some par_shape) (tree t ts) = protocol_count t + protocols_count ts
  protocol_part_count (Some new_shape) (tree a (tree b no_trees)) = protocol_count b
  protocol_part_count shape ts = 0

  pub protocols_count : Forest → ℕ
  protocols_count no_trees = 0
  protocols_count (tree t ts) = protocol_count t + protocols_count ts

-- some ports, one after the other
abbrev pub hidden_faults : Forest → List DocFault
hidden_faults no_trees = []
hidden_faults (tree t ts) = port_faults t ++ hidden_faults ts

-- the ports of a `new`, at least one
abbrev pub new_faults : Located → List DocFault
new_faults (word pos name) = form_fault NotAForm pos ∷ []
new_faults (number pos n) = form_fault NotAForm pos ∷ []
new_faults (literal pos bits) = form_fault NotAForm pos ∷ []
new_faults (group pos no_trees) = form_fault NotAForm pos ∷ []
new_faults (group pos (tree t ts)) = hidden_faults (tree t ts)

-- the tests of a protocol, so many nodes being counted before
abbrev mutual
  pub protocol_faults : NameScope → Option ℕ → Located → List DocFault
  protocol_faults scope count (word pos name) = form_fault NotAForm pos ∷ []
  protocol_faults scope count (number pos n) = form_fault NotAForm pos ∷ []
  protocol_faults scope count (literal pos bits) = form_fault NotAForm pos ∷ []
  protocol_faults scope count (group pos no_trees) = form_fault NotAForm pos ∷ []
  protocol_faults scope count (group pos (tree (word at name) ts)) =
      tested (has_shape (shape_named name) (tree_count ts)) (form_fault NotAForm pos)
      ++ node_faults (counted (shape_count (shape_named name) ts) count) pos
      ++ protocol_part_faults scope (counted (shape_count (shape_named name) ts) count) (shape_named name) ts
  protocol_faults scope count (group pos (tree (number at n) ts)) = form_fault NotAForm pos ∷ []
  protocol_faults scope count (group pos (tree (literal at bits) ts)) = form_fault NotAForm pos ∷ []
  protocol_faults scope count (group pos (tree (group at us) ts)) = form_fault NotAForm pos ∷ []

  pub protocol_part_faults : NameScope → Option ℕ → Option Shape → Forest → List DocFault
  protocol_part_faults scope count (Some out_shape) (tree a (tree b no_trees)) =
      word_faults a ++ reaction_faults scope count b
  protocol_part_faults scope count (Some par_shape) (tree t ts) =
      protocol_faults scope count t ++ protocols_faults scope (counted (protocol_count t) count) ts
  protocol_part_faults scope count (Some new_shape) (tree a (tree b no_trees)) =
      new_faults a ++ protocol_faults scope count b
  protocol_part_faults scope count shape ts = []

  pub protocols_faults : NameScope → Option ℕ → Forest → List DocFault
  protocols_faults scope count no_trees = []
  protocols_faults scope count (tree t ts) =
      protocol_faults scope count t ++ protocols_faults scope (counted (protocol_count t) count) ts
