-- The variables that occur in expressions, named by the depth of their binder, which is 0 for the outermost one.
use Rattle.std.specs.Prelude.{ℕ, suc, ◌+◌, Bool, List, [], ◌∷◌, ◌++◌, length, if◌then◌else◌}
use Rattle.std.specs.List.{list_any}
use Rattle.ipdl_base.specs.Bits.{number_of}
use Rattle.ipdl_term.specs.Terms.{Value, Expression}
use Rattle.ipdl_term.specs.Variables.{expression_uses}

-- the greatest sum of the widths of free variables that is worked on
abbrev pub greatest_free_bits : ℕ
greatest_free_bits = 12

-- whether the variable of this number occurs in one of the expressions
abbrev pub occurs : List Expression → ℕ → Bool
occurs es n = list_any (λ e. expression_uses e n) es

-- Of what is listed for each binder from this depth on, the outermost first, that of the binders whose variable occurs,
-- each with its depth. The number of a variable is the number of binders inside of its own.
abbrev pub free_of : {X : Type 0} → List Expression → ℕ → List X → List (ℕ × X)
free_of es depth [] = []
free_of es depth (x ∷ xs) =
    if occurs es (length xs) then ((depth, x) ∷ free_of es (suc depth) xs) else free_of es (suc depth) xs

-- the sum of their widths
abbrev pub total_width : List (ℕ × ℕ) → ℕ
total_width [] = 0
total_width (v ∷ free) = v.1 + total_width free

-- the bits of their values one after the other, and the number that these spell
abbrev pub bits_in : List (ℕ × Value) → List Bool
bits_in [] = []
bits_in (v ∷ valuation) = v.1 ++ bits_in valuation

abbrev pub reading : List (ℕ × Value) → ℕ
reading valuation = number_of (bits_in valuation)
