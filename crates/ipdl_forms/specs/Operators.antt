-- The operators on expressions, with the parts that each has.
use Rattle.std.specs.Prelude.{ℕ, Bool, List, [], ◌∷◌, codes, bytes_eq, Option, Some, None, is_some, if◌then◌else◌}

-- what a part of a list of expressions has to be: an expression, or a number of at most 128
pub data Operand : Type 0 where
  expression_operand : Operand
  width_operand : Operand

-- the parts after the name of an operator, none where it is no operator's
abbrev pub operator_operands : List ℕ → Option (List Operand)
operator_operands name =
    if bytes_eq name (codes "xor") then Some (expression_operand ∷ expression_operand ∷ [])
    else (if bytes_eq name (codes "and") then Some (expression_operand ∷ expression_operand ∷ [])
    else (if bytes_eq name (codes "not") then Some (expression_operand ∷ [])
    else (if bytes_eq name (codes "cat") then Some (expression_operand ∷ expression_operand ∷ [])
    else (if bytes_eq name (codes "cut") then Some (width_operand ∷ width_operand ∷ expression_operand ∷ [])
    else (if bytes_eq name (codes "eq") then Some (expression_operand ∷ expression_operand ∷ [])
    else (if bytes_eq name (codes "mux") then Some (expression_operand ∷ expression_operand ∷ expression_operand ∷ [])
    else None))))))

abbrev pub is_operator : List ℕ → Bool
is_operator name = is_some (operator_operands name)
