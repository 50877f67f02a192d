-- Tables of a signature: those that lead from the values of a width to the values of the same width, and those whose values
-- are all different.
use Rattle.std.specs.Prelude.{◌≡◌, ℕ, ◌^◌, Bool, true, false, not, ◌&&◌, ◌||◌, List, [], ◌∷◌, Option, Some, None, All, IfSome, option_and_then, length, nat_eq, slice_get, if◌then◌else◌}
use Rattle.ipdl_base.specs.Bits.{same_bits}
use Rattle.ipdl_term.specs.Interpretations.{SymbolShape, Signature}
use Rattle.ipdl_term.specs.Terms.{Value}

-- the symbol is a table from the values of the width to values of the width, and these are its values
abbrev pub IsTableOn : Signature → (symbol width : ℕ) → (values : List Value) → Type 0
IsTableOn sig f w values = slice_get sig f ≡ Some (record { from = w; to = w; values = Some values })

-- no value stands at two places
abbrev pub AreDifferent : List Value → Type 0
AreDifferent values = (i j : ℕ) (v : Value) → slice_get values i ≡ Some v → slice_get values j ≡ Some v → i ≡ j

-- each table has a value for each argument
abbrev pub TablesAreWhole : Signature → Type 0
TablesAreWhole sig = All (λ (s : SymbolShape). IfSome s.values (λ values. length values ≡ 2 ^ s.from)) sig

-- ---- as tests

-- the values of a symbol that leads from the width to the width, none of another and of one that is no table
abbrev values_on : ℕ → SymbolShape → Option (List Value)
values_on w s = if nat_eq s.from w && nat_eq s.to w then s.values else None

-- the values of the table from the width to the width that the symbol is, none where it is no such table
abbrev pub table_on : Signature → (symbol width : ℕ) → Option (List Value)
table_on sig f w = option_and_then (values_on w) (slice_get sig f)

abbrev pub has_value : List Value → Value → Bool
has_value [] v = false
has_value (u ∷ values) v = same_bits u v || has_value values v

abbrev pub all_different : List Value → Bool
all_different [] = true
all_different (v ∷ values) = not (has_value values v) && all_different values
