-- Which lifts keep the numbers of the variables in 32 bits.
use Rattle.std.specs.Prelude.{ℕ, suc, ◌+◌, ◌^◌, ◌<◌, ◌≤◌}
use Rattle.ipdl_term.specs.Terms.{Expression, literal, variable, outer, application, exclusive, conjunction, negation, concatenation, segment, equality, selection, Reaction, returning, flipping, reading, branching, binding}

-- Each variable from a number on has 32 bits when it has grown. The program has none of more than 32 bits before, so
-- of such a one nothing is asked.
abbrev pub LiftFitsInExpression : Expression → ℕ → ℕ → Type 0
LiftFitsInExpression (literal bits) from by = Unit {0}
LiftFitsInExpression (variable n) from by = from ≤ n → n < 2 ^ 32 → n + by < 2 ^ 32
LiftFitsInExpression (outer n) from by = Unit {0}
LiftFitsInExpression (application f e) from by = LiftFitsInExpression e from by
LiftFitsInExpression (exclusive a b) from by = LiftFitsInExpression a from by × LiftFitsInExpression b from by
LiftFitsInExpression (conjunction a b) from by = LiftFitsInExpression a from by × LiftFitsInExpression b from by
LiftFitsInExpression (negation a) from by = LiftFitsInExpression a from by
LiftFitsInExpression (concatenation a b) from by = LiftFitsInExpression a from by × LiftFitsInExpression b from by
LiftFitsInExpression (segment i n a) from by = LiftFitsInExpression a from by
LiftFitsInExpression (equality a b) from by = LiftFitsInExpression a from by × LiftFitsInExpression b from by
LiftFitsInExpression (selection c a b) from by =
    LiftFitsInExpression c from by × LiftFitsInExpression a from by × LiftFitsInExpression b from by

-- the same of a reaction, where the first variable that grows is one further under a binder
abbrev pub LiftFitsInReaction : Reaction → ℕ → ℕ → Type 0
LiftFitsInReaction (returning e) from by = LiftFitsInExpression e from by
LiftFitsInReaction (flipping w) from by = Unit {0}
LiftFitsInReaction (reading c) from by = Unit {0}
LiftFitsInReaction (branching e r s) from by =
    LiftFitsInExpression e from by × LiftFitsInReaction r from by × LiftFitsInReaction s from by
LiftFitsInReaction (binding w r s) from by = LiftFitsInReaction r from by × LiftFitsInReaction s (suc from) by
