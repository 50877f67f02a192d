-- Which reactions have no variable from a number on, where each binder adds one: what keeps the numbers in 32 bits.
use Rattle.std.specs.Prelude.{ℕ, suc, ◌+◌, ◌^◌, ◌<◌, ◌≤◌}
use Rattle.ipdl_term.specs.Sizes.{reaction_binders}
use Rattle.ipdl_term.specs.Terms.{Expression, literal, variable, outer, application, exclusive, conjunction, negation, concatenation, segment, equality, selection, Reaction, returning, flipping, reading, branching, binding}

-- each variable is less
abbrev pub IsExpressionBelow : ℕ → Expression → Type 0
IsExpressionBelow most (literal bits) = Unit {0}
IsExpressionBelow most (variable n) = n < most
IsExpressionBelow most (outer n) = Unit {0}
IsExpressionBelow most (application f e) = IsExpressionBelow most e
IsExpressionBelow most (exclusive a b) = IsExpressionBelow most a × IsExpressionBelow most b
IsExpressionBelow most (conjunction a b) = IsExpressionBelow most a × IsExpressionBelow most b
IsExpressionBelow most (negation a) = IsExpressionBelow most a
IsExpressionBelow most (concatenation a b) = IsExpressionBelow most a × IsExpressionBelow most b
IsExpressionBelow most (segment i n a) = IsExpressionBelow most a
IsExpressionBelow most (equality a b) = IsExpressionBelow most a × IsExpressionBelow most b
IsExpressionBelow most (selection c a b) = IsExpressionBelow most c × IsExpressionBelow most a × IsExpressionBelow most b

-- the same of a reaction, where one more is allowed under each binder
abbrev pub IsReactionBelow : ℕ → Reaction → Type 0
IsReactionBelow most (returning e) = IsExpressionBelow most e
IsReactionBelow most (flipping w) = Unit {0}
IsReactionBelow most (reading c) = Unit {0}
IsReactionBelow most (branching e r s) = IsExpressionBelow most e × IsReactionBelow most r × IsReactionBelow most s
IsReactionBelow most (binding w r s) = IsReactionBelow most r × IsReactionBelow (suc most) s

-- Some number is such, and has 32 bits also with all binders of the reaction: so whatever becomes of these, the numbers of
-- the variables have 32 bits.
abbrev pub HasRoom : Reaction → Type 0
HasRoom r = (most : ℕ) × IsReactionBelow most r × (most + reaction_binders r ≤ 2 ^ 32)
