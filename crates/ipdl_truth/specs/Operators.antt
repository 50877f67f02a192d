-- The values and the widths of operators, by the values and the widths of their operands. Whatever is no operator of so
-- many operands has nothing.
use Rattle.std.specs.Prelude.{ℕ, ◌+◌, List, [], ◌∷◌, length, slice_get, unwrap_or}
use Rattle.ipdl_base.specs.Bits.{xor_bits, and_bits, not_bits, same_bits}
use Rattle.ipdl_term.specs.Interpretations.{Signature, Interpretation, symbol_value, at_one_width, cat_value, cut_value}
use Rattle.ipdl_term.specs.Terms.{Value, Expression, literal, variable, application, exclusive, conjunction, negation, concatenation, segment, equality}
use Rattle.ipdl_typing.specs.Checks.{symbol_to}

-- the width of what has no operand; the widths of the binders are given, that of variable 0 first
abbrev pub width_of_leaf : List ℕ → Expression → ℕ
width_of_leaf widths (literal bits) = length bits
width_of_leaf widths (variable n) = unwrap_or (slice_get widths n) 0
width_of_leaf widths _ = 0

-- of one operand
abbrev pub value_over_one : Interpretation → Expression → Value → Value
value_over_one J (application f e) v = symbol_value J f v
value_over_one J (negation a) v = not_bits v
value_over_one J (segment i n a) v = cut_value i n v
value_over_one J _ v = []

abbrev pub width_over_one : Signature → Expression → ℕ → ℕ
width_over_one sig (application f e) w = symbol_to (slice_get sig f)
width_over_one sig (negation a) w = w
width_over_one sig (segment i n a) w = n
width_over_one sig _ w = 0

-- of two operands
abbrev pub value_over_two : Expression → Value → Value → Value
value_over_two (exclusive a b) v w = at_one_width v w (xor_bits v w)
value_over_two (conjunction a b) v w = at_one_width v w (and_bits v w)
value_over_two (concatenation a b) v w = cat_value v w
value_over_two (equality a b) v w = at_one_width v w (same_bits v w ∷ [])
value_over_two _ v w = []

abbrev pub width_over_two : Expression → ℕ → ℕ → ℕ
width_over_two (exclusive a b) v w = v
width_over_two (conjunction a b) v w = v
width_over_two (concatenation a b) v w = v + w
width_over_two (equality a b) v w = 1
width_over_two _ v w = 0
