-- Which protocols have a text that is read back as they are.
use Rattle.std.specs.Prelude.{◌≡◌, ℕ, ◌≤◌, false, List, [], length, slice_get, Some}
use Rattle.ipdl_sig.specs.declared.symbol.Symbol.{Symbol}
use Rattle.ipdl_sig.specs.Symbols.{AreNumbered, names_of}
use Rattle.ipdl_term.specs.Terms.{Expression, literal, variable, outer, application, exclusive, conjunction, negation, concatenation, segment, equality, selection, Reaction, returning, flipping, reading, branching, binding, Protocol, nil, assignment, parallel, hiding}
use Rattle.ipdl_term.specs.Sizes.{most_nodes, protocol_nodes, printed_depth, greatest_printed_depth}
use Rattle.ipdl_forms.specs.Operators.{is_operator}
use Rattle.ipdl_forms.specs.Scopes.{NameScope}
use Rattle.ipdl_forms.specs.Widths.{greatest_width}
use Rattle.ipdl_term.specs.Within.{IsProtocolWithin}

-- ---- no variable of a binder outside of the term

abbrev pub HasNoOuterInExpression : Expression → Type 0
HasNoOuterInExpression (literal bits) = Unit {0}
HasNoOuterInExpression (variable n) = Unit {0}
HasNoOuterInExpression (outer n) = ⊥
HasNoOuterInExpression (application f e) = HasNoOuterInExpression e
HasNoOuterInExpression (exclusive a b) = HasNoOuterInExpression a × HasNoOuterInExpression b
HasNoOuterInExpression (conjunction a b) = HasNoOuterInExpression a × HasNoOuterInExpression b
HasNoOuterInExpression (negation a) = HasNoOuterInExpression a
HasNoOuterInExpression (concatenation a b) = HasNoOuterInExpression a × HasNoOuterInExpression b
HasNoOuterInExpression (segment i n a) = HasNoOuterInExpression a
HasNoOuterInExpression (equality a b) = HasNoOuterInExpression a × HasNoOuterInExpression b
HasNoOuterInExpression (selection c a b) =
    HasNoOuterInExpression c × HasNoOuterInExpression a × HasNoOuterInExpression b

abbrev pub HasNoOuterInReaction : Reaction → Type 0
HasNoOuterInReaction (returning e) = HasNoOuterInExpression e
HasNoOuterInReaction (flipping w) = Unit {0}
HasNoOuterInReaction (reading c) = Unit {0}
HasNoOuterInReaction (branching e r s) =
    HasNoOuterInExpression e × HasNoOuterInReaction r × HasNoOuterInReaction s
HasNoOuterInReaction (binding w r s) = HasNoOuterInReaction r × HasNoOuterInReaction s

abbrev pub HasNoOuter : Protocol → Type 0
HasNoOuter nil = Unit {0}
HasNoOuter (assignment c r) = HasNoOuterInReaction r
HasNoOuter (parallel p q) = HasNoOuter p × HasNoOuter q
HasNoOuter (hiding c w p) = HasNoOuter p

-- ---- widths, numbers of a `cut` and lengths of literals that may be written

abbrev pub HasSmallNumbersInExpression : Expression → Type 0
HasSmallNumbersInExpression (literal bits) = length bits ≤ greatest_width
HasSmallNumbersInExpression (variable n) = Unit {0}
HasSmallNumbersInExpression (outer n) = Unit {0}
HasSmallNumbersInExpression (application f e) = HasSmallNumbersInExpression e
HasSmallNumbersInExpression (exclusive a b) = HasSmallNumbersInExpression a × HasSmallNumbersInExpression b
HasSmallNumbersInExpression (conjunction a b) = HasSmallNumbersInExpression a × HasSmallNumbersInExpression b
HasSmallNumbersInExpression (negation a) = HasSmallNumbersInExpression a
HasSmallNumbersInExpression (concatenation a b) = HasSmallNumbersInExpression a × HasSmallNumbersInExpression b
HasSmallNumbersInExpression (segment i n a) =
    (i ≤ greatest_width) × (n ≤ greatest_width) × HasSmallNumbersInExpression a
HasSmallNumbersInExpression (equality a b) = HasSmallNumbersInExpression a × HasSmallNumbersInExpression b
HasSmallNumbersInExpression (selection c a b) =
    HasSmallNumbersInExpression c × HasSmallNumbersInExpression a × HasSmallNumbersInExpression b

abbrev pub HasSmallNumbersInReaction : Reaction → Type 0
HasSmallNumbersInReaction (returning e) = HasSmallNumbersInExpression e
HasSmallNumbersInReaction (flipping w) = w ≤ greatest_width
HasSmallNumbersInReaction (reading c) = Unit {0}
HasSmallNumbersInReaction (branching e r s) =
    HasSmallNumbersInExpression e × HasSmallNumbersInReaction r × HasSmallNumbersInReaction s
HasSmallNumbersInReaction (binding w r s) =
    (w ≤ greatest_width) × HasSmallNumbersInReaction r × HasSmallNumbersInReaction s

abbrev pub HasSmallNumbers : Protocol → Type 0
HasSmallNumbers nil = Unit {0}
HasSmallNumbers (assignment c r) = HasSmallNumbersInReaction r
HasSmallNumbers (parallel p q) = HasSmallNumbers p × HasSmallNumbers q
HasSmallNumbers (hiding c w p) = (w ≤ greatest_width) × HasSmallNumbers p

-- ---- symbols

-- no symbol has the name of an operator
abbrev pub AreNoOperators : List Symbol → Type 0
AreNoOperators symbols = (n : ℕ) (s : Symbol) → slice_get symbols n ≡ Some s → is_operator s.name ≡ false

-- ---- protocols

-- The tree that the protocol is printed as spells it, where these symbols may be named: they are all that it applies,
-- its variables are bound, and its widths, its depth in print and its nodes are within the limits.
pub record IsShowable (symbols : List Symbol) (p : Protocol) : Type 0 where
  pub within : IsProtocolWithin (length symbols) p
  pub no_outer : HasNoOuter p
  pub widths : HasSmallNumbers p
  pub depth : printed_depth p ≤ greatest_printed_depth
  pub nodes : protocol_nodes p ≤ most_nodes
  pub names : AreNoOperators symbols
  pub distinct : AreNumbered symbols

-- where a shown protocol is read back: all symbols may be named, and no binder is around
abbrev pub shown_scope : List Symbol → NameScope
shown_scope symbols = record { symbols = names_of symbols; binders = []; in_step = false }
