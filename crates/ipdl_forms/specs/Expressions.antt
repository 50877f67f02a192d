-- Which trees spell an expression, and the tests of one in reading order.
use Rattle.std.specs.Prelude.{◌≡◌, ℕ, suc, ◌+◌, ◌==◌, ◌||◌, is_some, is_none, List, [], ◌∷◌, ◌++◌, length, codes, Option, Some, None, unwrap_or, if◌then◌else◌}
use Rattle.std.specs.Option.{option_or}
use Rattle.ipdl_term.specs.Terms.{Expression, literal, variable, outer, application, exclusive, conjunction, negation, concatenation, segment, equality, selection}
use Rattle.ipdl_tree.specs.Trees.{Located, word, number, group, Forest, no_trees, tree}
use Rattle.ipdl_tree.specs.Trees as Trees
use Rattle.ipdl_forms.specs.declared.fault.FormCause.TheVariants.{NotAForm, UnknownName}
use Rattle.ipdl_forms.specs.declared.fault.DocFault.{DocFault}
use Rattle.ipdl_forms.specs.Counts.{counted, node_faults}
use Rattle.ipdl_forms.specs.Faults.{form_fault, tested}
use Rattle.ipdl_forms.specs.Lists.{tree_count, literal_in, head_of, operands, operand, IsForm}
use Rattle.ipdl_forms.specs.Operators.{Operand, expression_operand, width_operand, operator_operands}
use Rattle.ipdl_forms.specs.Widths.{SpellsWidth, greatest_width, width_faults}
use Rattle.ipdl_forms.specs.Scopes.{NameScope, symbol_number, bound_number, free_number, bound_variable, free_variable}

-- ---- what is spelled

-- the symbol whose name is the head of a list, where it is no operator's
abbrev pub symbol_named : NameScope → Option (List ℕ) → Option ℕ
symbol_named scope None = None
symbol_named scope (Some name) = if is_none (operator_operands name) then symbol_number scope name else None

abbrev pub SpellsExpression : NameScope → Expression → Located → Type 0
SpellsExpression scope (literal bits) t = literal_in t ≡ Some bits
SpellsExpression scope (variable n) t = bound_variable scope t ≡ Some n
SpellsExpression scope (outer n) t = free_variable scope t ≡ Some n
SpellsExpression scope (application f e) t =
    (symbol_named scope (head_of t) ≡ Some f) × (tree_count (operands t) ≡ 1)
    × SpellsExpression scope e (operand 0 t)
SpellsExpression scope (exclusive a b) t =
    IsForm (codes "xor") 2 t × SpellsExpression scope a (operand 0 t) × SpellsExpression scope b (operand 1 t)
SpellsExpression scope (conjunction a b) t =
    IsForm (codes "and") 2 t × SpellsExpression scope a (operand 0 t) × SpellsExpression scope b (operand 1 t)
SpellsExpression scope (negation a) t = IsForm (codes "not") 1 t × SpellsExpression scope a (operand 0 t)
SpellsExpression scope (concatenation a b) t =
    IsForm (codes "cat") 2 t × SpellsExpression scope a (operand 0 t) × SpellsExpression scope b (operand 1 t)
SpellsExpression scope (segment i n a) t =
    IsForm (codes "cut") 3 t × SpellsWidth i (operand 0 t) × SpellsWidth n (operand 1 t)
    × SpellsExpression scope a (operand 2 t)
SpellsExpression scope (equality a b) t =
    IsForm (codes "eq") 2 t × SpellsExpression scope a (operand 0 t) × SpellsExpression scope b (operand 1 t)
SpellsExpression scope (selection c a b) t =
    IsForm (codes "mux") 3 t × SpellsExpression scope c (operand 0 t) × SpellsExpression scope a (operand 1 t)
    × SpellsExpression scope b (operand 2 t)

-- ---- the tests

-- the parts after a head: those of its operator, or the one argument of a symbol
abbrev pub operands_after : NameScope → List ℕ → Option (List Operand)
operands_after scope name =
    option_or (operator_operands name)
    (if is_some (symbol_number scope name) then Some (expression_operand ∷ []) else None)

-- the same, none where there is no such head
abbrev pub operands_wanted : NameScope → List ℕ → List Operand
operands_wanted scope name = unwrap_or (operands_after scope name) []

-- the head of a list at an offset is the name of an operator or a symbol, and as many parts follow as it asks for
abbrev pub head_faults : NameScope → (list head : ℕ) → List ℕ → ℕ → List DocFault
head_faults scope list head name count = by_operands (operands_after scope name)
  where
    by_operands : Option (List Operand) → List DocFault
    by_operands None = form_fault UnknownName head ∷ []
    by_operands (Some wanted) = tested (count == length wanted) (form_fault NotAForm list)

-- the name is that of a variable
abbrev pub variable_faults : NameScope → ℕ → List ℕ → List DocFault
variable_faults scope pos name =
    tested (is_some (bound_number scope name) || is_some (free_number scope name)) (form_fault UnknownName pos)

-- how many nodes are counted in the tree of an expression
abbrev mutual
  pub expression_count : Located → ℕ
  expression_count (word pos name) = 1
  expression_count (number pos n) = 0
  expression_count (Trees.literal pos bits) = 1
  expression_count (group pos no_trees) = 1
  expression_count (group pos (tree t ts)) = suc (operand_count ts)

  pub operand_count : Forest → ℕ
  operand_count no_trees = 0
  operand_count (tree t ts) = expression_count t + operand_count ts

-- the tests of an expression, so many nodes being counted before
abbrev mutual
  pub expression_faults : NameScope → Option ℕ → Located → List DocFault
  expression_faults scope count (word pos name) =
      node_faults (counted 1 count) pos ++ variable_faults scope pos name
  expression_faults scope count (number pos n) = form_fault NotAForm pos ∷ []
  expression_faults scope count (Trees.literal pos bits) = node_faults (counted 1 count) pos
  expression_faults scope count (group pos no_trees) = form_fault NotAForm pos ∷ []
  expression_faults scope count (group pos (tree (word at name) ts)) =
      head_faults scope pos at name (tree_count ts) ++ node_faults (counted 1 count) pos
      ++ operand_faults scope (counted 1 count) (operands_wanted scope name) ts
  expression_faults scope count (group pos (tree (number at n) ts)) = form_fault NotAForm pos ∷ []
  expression_faults scope count (group pos (tree (Trees.literal at bits) ts)) = form_fault NotAForm pos ∷ []
  expression_faults scope count (group pos (tree (group at us) ts)) = form_fault NotAForm pos ∷ []

  pub operand_faults : NameScope → Option ℕ → List Operand → Forest → List DocFault
  operand_faults scope count wanted no_trees = []
  operand_faults scope count [] (tree t ts) = []
  operand_faults scope count (expression_operand ∷ wanted) (tree t ts) =
      expression_faults scope count t ++ operand_faults scope (counted (expression_count t) count) wanted ts
  operand_faults scope count (width_operand ∷ wanted) (tree t ts) =
      width_faults greatest_width t ++ operand_faults scope count wanted ts
