-- Abstract symbols, those without values, and the first of them in an expression.
use Rattle.std.specs.Prelude.{◌≡◌, ℕ, Bool, false, List, [], ◌∷◌, ◌++◌, None, is_none, find, slice_get}
use Rattle.std.specs.Option.{option_map_or}
use Rattle.ipdl_term.specs.Interpretations.{Signature}
use Rattle.ipdl_term.specs.Terms.{Expression, literal, variable, outer, application, exclusive, conjunction, negation, concatenation, segment, equality, selection}

-- whether the symbol of this number is there and has no values
abbrev pub is_abstract : Signature → ℕ → Bool
is_abstract sig f = option_map_or (λ s. is_none s.values) (slice_get sig f) false

-- the symbols of an expression in preorder
abbrev pub symbols_in : Expression → List ℕ
symbols_in (literal bits) = []
symbols_in (variable n) = []
symbols_in (outer n) = []
symbols_in (application f e) = f ∷ symbols_in e
symbols_in (exclusive a b) = symbols_in a ++ symbols_in b
symbols_in (conjunction a b) = symbols_in a ++ symbols_in b
symbols_in (negation a) = symbols_in a
symbols_in (concatenation a b) = symbols_in a ++ symbols_in b
symbols_in (segment i n a) = symbols_in a
symbols_in (equality a b) = symbols_in a ++ symbols_in b
symbols_in (selection c a b) = symbols_in c ++ (symbols_in a ++ symbols_in b)

-- those of expressions one after the other
abbrev pub symbols_in_all : List Expression → List ℕ
symbols_in_all [] = []
symbols_in_all (e ∷ es) = symbols_in e ++ symbols_in_all es

-- no abstract symbol occurs
abbrev pub HasTablesOnly : Signature → Expression → Type 0
HasTablesOnly sig e = find (is_abstract sig) (symbols_in e) ≡ None
