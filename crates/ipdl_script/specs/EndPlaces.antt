-- The first place at which two terms differ, as it is found. Children are numbered from 0: the reaction of an assignment,
-- the two parts of a `par`, what stands in a `new`; the expression of a `ret`; the condition and the arms of an `if`; the
-- two reactions of a `bind`; the operands of an expression.
use Rattle.std.specs.Prelude.{ℕ, Bool, true, false, List, [], ◌∷◌, reverse, nat_eq, bytes_eq, Option, Some, None}
use Rattle.std.specs.Option.{option_or}
use Rattle.ipdl_base.specs.Bits.{same_bits}
use Rattle.ipdl_term.specs.Terms.{Expression, literal, variable, outer, application, exclusive, conjunction, negation, concatenation, segment, equality, selection, Reaction, returning, flipping, reading, branching, binding, Protocol, nil, assignment, parallel, hiding}

-- a place in the child of this number
abbrev pub below : ℕ → Option (List ℕ) → Option (List ℕ)
below child None = None
below child (Some place) = Some (child ∷ place)

-- the place of the whole term where a test fails, and else a later place
abbrev pub here_unless : Bool → Option (List ℕ) → Option (List ℕ)
here_unless true later = later
here_unless false later = Some []

-- The names and numbers of a node come before its children.

abbrev pub differing_in_expression : Expression → Expression → Option (List ℕ)
differing_in_expression (literal v) (literal w) = here_unless (same_bits v w) None
differing_in_expression (variable m) (variable n) = here_unless (nat_eq m n) None
differing_in_expression (outer m) (outer n) = here_unless (nat_eq m n) None
differing_in_expression (application f a) (application g b) =
    here_unless (nat_eq f g) (below 0 (differing_in_expression a b))
differing_in_expression (exclusive a b) (exclusive c d) =
    option_or (below 0 (differing_in_expression a c)) (below 1 (differing_in_expression b d))
differing_in_expression (conjunction a b) (conjunction c d) =
    option_or (below 0 (differing_in_expression a c)) (below 1 (differing_in_expression b d))
differing_in_expression (negation a) (negation b) = below 0 (differing_in_expression a b)
differing_in_expression (concatenation a b) (concatenation c d) =
    option_or (below 0 (differing_in_expression a c)) (below 1 (differing_in_expression b d))
differing_in_expression (segment i m a) (segment j n b) =
    here_unless (nat_eq i j) (here_unless (nat_eq m n) (below 0 (differing_in_expression a b)))
differing_in_expression (equality a b) (equality c d) =
    option_or (below 0 (differing_in_expression a c)) (below 1 (differing_in_expression b d))
differing_in_expression (selection a b c) (selection d e f) =
    option_or (below 0 (differing_in_expression a d))
    (option_or (below 1 (differing_in_expression b e)) (below 2 (differing_in_expression c f)))
differing_in_expression _ _ = Some []

abbrev pub differing_in_reaction : Reaction → Reaction → Option (List ℕ)
differing_in_reaction (returning a) (returning b) = below 0 (differing_in_expression a b)
differing_in_reaction (flipping v) (flipping w) = here_unless (nat_eq v w) None
differing_in_reaction (reading c) (reading d) = here_unless (bytes_eq c d) None
differing_in_reaction (branching a r s) (branching b t u) =
    option_or (below 0 (differing_in_expression a b))
    (option_or (below 1 (differing_in_reaction r t)) (below 2 (differing_in_reaction s u)))
differing_in_reaction (binding v r s) (binding w t u) =
    here_unless (nat_eq v w)
    (option_or (below 0 (differing_in_reaction r t)) (below 1 (differing_in_reaction s u)))
differing_in_reaction _ _ = Some []

-- the first place in preorder where two protocols differ in what stands there
abbrev pub differing_place : Protocol → Protocol → Option (List ℕ)
differing_place nil nil = None
differing_place (assignment c r) (assignment d s) = here_unless (bytes_eq c d) (below 0 (differing_in_reaction r s))
differing_place (parallel p q) (parallel r s) =
    option_or (below 0 (differing_place p r)) (below 1 (differing_place q s))
differing_place (hiding c v p) (hiding d w q) =
    here_unless (bytes_eq c d) (here_unless (nat_eq v w) (below 0 (differing_place p q)))
differing_place _ _ = Some []

-- the place whose children are given from the innermost to the outermost
abbrev pub outward : Option (List ℕ) → Option (List ℕ)
outward None = None
outward (Some children) = Some (reverse children)
