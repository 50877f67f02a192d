-- The tests of a list whose head is known, and the trees of lists that are read part by part.
use Rattle.std.specs.Prelude.{ℕ, ◌+◌, ◌==◌, List, ◌++◌, length, codes, Option}
use Rattle.ipdl_tree.specs.Trees.{Located, word, group, Forest, no_trees, tree}
use Rattle.ipdl_forms.specs.declared.fault.FormCause.TheVariants.{NotAForm}
use Rattle.ipdl_forms.specs.declared.fault.DocFault.{DocFault}
use Rattle.ipdl_forms.specs.Counts.{counted, node_faults}
use Rattle.ipdl_forms.specs.Expressions.{operand_faults}
use Rattle.ipdl_forms.specs.Faults.{form_fault, tested}
use Rattle.ipdl_forms.specs.Lists.{tree_count, tree_at, name_in}
use Rattle.ipdl_forms.specs.Operators.{Operand}
use Rattle.ipdl_forms.specs.Protocols.{Shape, has_shape, shape_count, protocol_part_count, protocol_part_faults}
use Rattle.ipdl_forms.specs.Reactions.{ReactionPart, reaction_part_faults}
use Rattle.ipdl_forms.specs.Scopes.{NameScope}

-- the tests of a list at an offset, which has to have these parts after its head
abbrev pub expression_list_faults : NameScope → Option ℕ → ℕ → List Operand → Forest → List DocFault
expression_list_faults scope count pos wanted ts =
    tested (tree_count ts == length wanted) (form_fault NotAForm pos) ++ node_faults (counted 1 count) pos
    ++ operand_faults scope (counted 1 count) wanted ts

-- the tests of a list at an offset, which has to have these parts after its head
abbrev pub reaction_list_faults : NameScope → Option ℕ → ℕ → List ReactionPart → Forest → List DocFault
reaction_list_faults scope count pos wanted ts =
    tested (tree_count ts == length wanted) (form_fault NotAForm pos) ++ node_faults (counted 1 count) pos
    ++ reaction_part_faults scope (name_in (tree_at 0 ts)) (counted 1 count) wanted ts

-- the tests of a list of the shape at an offset
abbrev pub protocol_list_faults : NameScope → Option ℕ → ℕ → Option Shape → Forest → List DocFault
protocol_list_faults scope count pos shape ts =
    tested (has_shape shape (tree_count ts)) (form_fault NotAForm pos)
    ++ node_faults (counted (shape_count shape ts) count) pos
    ++ protocol_part_faults scope (counted (shape_count shape ts) count) shape ts

-- how many nodes are counted in a list of the shape
abbrev pub protocol_list_count : Option Shape → Forest → ℕ
protocol_list_count shape ts = shape_count shape ts + protocol_part_count shape ts

-- ---- lists that are read part by part

-- the part alone, or the `par` of more of them
abbrev pub beside_parts : Located → Forest → Located
beside_parts a no_trees = a
beside_parts a (tree b ts) = group 0 (tree (word 0 (codes "par")) (tree a (tree b ts)))

-- the tree alone, or with ports hidden in it
abbrev pub under_ports : Forest → Located → Located
under_ports no_trees y = y
under_ports (tree d ds) y =
    group 0 (tree (word 0 (codes "new")) (tree (group 0 (tree d ds)) (tree y no_trees)))
