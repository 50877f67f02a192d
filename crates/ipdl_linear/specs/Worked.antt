-- Worked pairs, whose answers are computed from the definitions.
use Rattle.std.specs.Prelude.{[], ◌∷◌}
use Rattle.ipdl_linear.specs.Likeness.{Pair}
use Rattle.ipdl_term.specs.Terms.{Expression, variable}

-- three bits: the innermost is variable 0
abbrev pub of_bits : Expression → Expression → Pair
of_bits left right = record { sig = []; widths = 1 ∷ 1 ∷ 1 ∷ []; left = left; right = right }

-- one variable of two bits
abbrev pub of_two_bits : Expression → Expression → Pair
of_two_bits left right = record { sig = []; widths = 2 ∷ []; left = left; right = right }

abbrev pub x : Expression
x = variable 2

abbrev pub y : Expression
y = variable 1

abbrev pub z : Expression
z = variable 0
