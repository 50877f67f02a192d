-- The values of the free variables that a number stands for, and how they are put among the values of all binders.
use Rattle.std.specs.Prelude.{ℕ, ◌/◌, ◌^◌, List, [], ◌∷◌, slice_set}
use Rattle.ipdl_base.specs.Bits.{bits_of}
use Rattle.ipdl_term.specs.Terms.{Value}
use Rattle.ipdl_truth.specs.FreeVariables.{total_width}

-- the outermost variable has the highest bits of the number
abbrev pub valued : List (ℕ × ℕ) → ℕ → List (ℕ × Value)
valued [] n = []
valued (v ∷ free) n = (v.0, bits_of v.1 (n / 2 ^ total_width free)) ∷ valued free n

-- each value at its depth
abbrev pub put_in : List (ℕ × Value) → List Value → List Value
put_in [] env = env
put_in (v ∷ valuation) env = put_in valuation (slice_set env v.0 v.1)
