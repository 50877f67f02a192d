-- The tree that an expression is printed as spells it.
use Rattle.std.proofs.Common.{ℕ, ◌-◌, ◌≤◌, List, length, refl, arith}
use Rattle.ipdl_sig.specs.declared.symbol.Symbol.{Symbol}
use Rattle.ipdl_sig.specs.Symbols.{AreNumbered}
use Rattle.ipdl_term.specs.Sizes.{greatest_printed_depth}
use Rattle.ipdl_term.specs.Terms.{Expression, literal, variable, outer, application, exclusive, conjunction, negation, concatenation, segment, equality, selection}
use Rattle.ipdl_forms.specs.Expressions.{SpellsExpression}
use Rattle.ipdl_printing.specs.Printing.{expression_tree}
use Rattle.ipdl_roundtrip.specs.Shown.{AreNoOperators, HasNoOuterInExpression, HasSmallNumbersInExpression}
use Rattle.ipdl_term.specs.Within.{IsExpressionWithin}
use Rattle.ipdl_roundtrip.proofs.PrintedNames.{AreFirst, printed_scope, binder_among-binders_to, symbol_named-printed}

pub SpellsExpression-printed : (all symbols : List Symbol) (d : ℕ) (e : Expression) → AreFirst symbols all → AreNoOperators symbols → AreNumbered symbols → d ≤ greatest_printed_depth → IsExpressionWithin (length symbols) d e → HasNoOuterInExpression e → HasSmallNumbersInExpression e → SpellsExpression (printed_scope symbols d) e (expression_tree all d e)
SpellsExpression-printed all symbols d (literal bits) first names distinct few within no_outer small = refl
SpellsExpression-printed all symbols d (variable n) first names distinct few within no_outer small =
    binder_among-binders_to d n (d - 1 - n) (omega arith) few
SpellsExpression-printed all symbols d (outer n) first names distinct few within no_outer small = absurd no_outer
SpellsExpression-printed all symbols d (application f e) first names distinct few within no_outer small =
    (symbol_named-printed all symbols d f first within.0 names distinct, refl, SpellsExpression-printed all symbols d e first names distinct few within.1 no_outer small)
SpellsExpression-printed all symbols d (exclusive a b) first names distinct few within no_outer small =
    ((refl, refl), SpellsExpression-printed all symbols d a first names distinct few within.0 no_outer.0 small.0, SpellsExpression-printed all symbols d b first names distinct few within.1 no_outer.1 small.1)
SpellsExpression-printed all symbols d (conjunction a b) first names distinct few within no_outer small =
    ((refl, refl), SpellsExpression-printed all symbols d a first names distinct few within.0 no_outer.0 small.0, SpellsExpression-printed all symbols d b first names distinct few within.1 no_outer.1 small.1)
SpellsExpression-printed all symbols d (negation a) first names distinct few within no_outer small =
    ((refl, refl), SpellsExpression-printed all symbols d a first names distinct few within no_outer small)
SpellsExpression-printed all symbols d (concatenation a b) first names distinct few within no_outer small =
    ((refl, refl), SpellsExpression-printed all symbols d a first names distinct few within.0 no_outer.0 small.0, SpellsExpression-printed all symbols d b first names distinct few within.1 no_outer.1 small.1)
SpellsExpression-printed all symbols d (segment i n a) first names distinct few within no_outer small =
    ((refl, refl), (refl, small.0), (refl, small.1), SpellsExpression-printed all symbols d a first names distinct few within no_outer small.2)
SpellsExpression-printed all symbols d (equality a b) first names distinct few within no_outer small =
    ((refl, refl), SpellsExpression-printed all symbols d a first names distinct few within.0 no_outer.0 small.0, SpellsExpression-printed all symbols d b first names distinct few within.1 no_outer.1 small.1)
SpellsExpression-printed all symbols d (selection c a b) first names distinct few within no_outer small =
    ((refl, refl), SpellsExpression-printed all symbols d c first names distinct few within.0 no_outer.0 small.0, SpellsExpression-printed all symbols d a first names distinct few within.1 no_outer.1 small.1, SpellsExpression-printed all symbols d b first names distinct few within.2 no_outer.2 small.2)
