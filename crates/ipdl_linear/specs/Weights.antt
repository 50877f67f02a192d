-- The widths of all subexpressions, each as often as it occurs.
use Rattle.std.specs.Prelude.{ℕ, ◌+◌, List, length}
use Rattle.ipdl_term.specs.Interpretations.{Signature}
use Rattle.ipdl_term.specs.Terms.{Expression, literal, variable, outer, application, exclusive, conjunction, negation, concatenation, segment, equality, selection}
use Rattle.ipdl_typing.specs.Checks.{expression_width}

-- the greatest sum for two expressions that is worked on
abbrev pub greatest_weight : ℕ
greatest_weight = 8_192

-- the width of an expression and those of all that stands within it; the widths of the binders are given, that of
-- variable 0 first
abbrev pub weight : Signature → List ℕ → Expression → ℕ
weight sig widths (literal bits) = length bits
weight sig widths (variable n) = expression_width sig widths (variable n)
weight sig widths (outer n) = 0
weight sig widths (application f e) = expression_width sig widths (application f e) + weight sig widths e
weight sig widths (exclusive a b) = expression_width sig widths a + (weight sig widths a + weight sig widths b)
weight sig widths (conjunction a b) = expression_width sig widths a + (weight sig widths a + weight sig widths b)
weight sig widths (negation a) = expression_width sig widths a + weight sig widths a
weight sig widths (concatenation a b) =
    (expression_width sig widths a + expression_width sig widths b) + (weight sig widths a + weight sig widths b)
weight sig widths (segment i n a) = n + weight sig widths a
weight sig widths (equality a b) = 1 + (weight sig widths a + weight sig widths b)
weight sig widths (selection c a b) = expression_width sig widths a + (weight sig widths c + (weight sig widths a + weight sig widths b))
