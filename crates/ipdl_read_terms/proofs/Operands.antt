-- The first fault among the parts of a list of expressions.
use Rattle.std.proofs.Common.{◌≡◌, ℕ, ◌==◌, List, [], ◌∷◌, ◌++◌, length, refl}
use Rattle.std.specs.Prelude.{Option}
use Rattle.ipdl_tree.specs.Trees.{Located, Forest, tree}
use Rattle.ipdl_forms.specs.declared.fault.DocFault.{DocFault}
use Rattle.ipdl_forms.specs.declared.fault.FormCause.TheVariants.{NotAForm}
use Rattle.ipdl_forms.specs.Counts.{counted, node_faults}
use Rattle.ipdl_forms.specs.Expressions.{expression_count, expression_faults, operand_faults}
use Rattle.ipdl_read_terms.specs.Lists.{expression_list_faults}
use Rattle.ipdl_forms.specs.Faults.{TellsFirst, tested, form_fault}
use Rattle.ipdl_forms.specs.Lists.{tree_count}
use Rattle.ipdl_forms.specs.Operators.{Operand, expression_operand}
use Rattle.ipdl_forms.specs.Scopes.{NameScope}
use Rattle.ipdl_forms.proofs.Faults.{TellsFirst-in_front, TellsFirst-after}

-- a list of the right number of parts that is counted: the first fault of its parts
pub list_first : (fault : DocFault) (scope : NameScope) (count : Option ℕ) (pos : ℕ) (wanted : List Operand) (ts : Forest) → tested (tree_count ts == length wanted) (form_fault NotAForm pos) ≡ [] → node_faults (counted 1 count) pos ≡ [] → TellsFirst fault (operand_faults scope (counted 1 count) wanted ts) → TellsFirst fault (expression_list_faults scope count pos wanted ts)
list_first fault scope count pos wanted ts many clean first =
    TellsFirst-after fault (tested (tree_count ts == length wanted) (form_fault NotAForm pos) ++ node_faults (counted 1 count) pos) (operand_faults scope (counted 1 count) wanted ts)
    (rw (many, clean) refl) first

-- the first fault of an expression is that of its list
pub operand_first : (fault : DocFault) (scope : NameScope) (count : Option ℕ) (wanted : List Operand) (t : Located) (ts : Forest) → TellsFirst fault (expression_faults scope count t) → TellsFirst fault (operand_faults scope count (expression_operand ∷ wanted) (tree t ts))
operand_first fault scope count wanted t ts first =
    TellsFirst-in_front fault (expression_faults scope count t) (operand_faults scope (counted (expression_count t) count) wanted ts) first

-- that of the parts after one that has none
pub operand_later : (fault : DocFault) (scope : NameScope) (count : Option ℕ) (wanted : List Operand) (t : Located) (ts : Forest) → expression_faults scope count t ≡ [] → TellsFirst fault (operand_faults scope (counted (expression_count t) count) wanted ts) → TellsFirst fault (operand_faults scope count (expression_operand ∷ wanted) (tree t ts))
operand_later fault scope count wanted t ts clean first =
    TellsFirst-after fault (expression_faults scope count t) (operand_faults scope (counted (expression_count t) count) wanted ts) clean first
