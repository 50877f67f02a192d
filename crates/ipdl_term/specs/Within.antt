-- Terms whose symbols are among the first so many and each of whose variables has a binder.
use Rattle.std.specs.Prelude.{ℕ, ◌+◌, ◌<◌}
use Rattle.ipdl_term.specs.Terms.{Expression, literal, variable, outer, application, exclusive, conjunction, negation, concatenation, segment, equality, selection, Reaction, returning, flipping, reading, branching, binding, Protocol, nil, assignment, parallel, hiding, Context, hole, in_left, in_right, in_hiding}

-- of so many symbols and under so many binders
abbrev pub IsExpressionWithin : ℕ → ℕ → Expression → Type 0
IsExpressionWithin symbols depth (literal bits) = Unit {0}
IsExpressionWithin symbols depth (variable n) = n < depth
IsExpressionWithin symbols depth (outer n) = Unit {0}
IsExpressionWithin symbols depth (application f e) = (f < symbols) × IsExpressionWithin symbols depth e
IsExpressionWithin symbols depth (exclusive a b) = IsExpressionWithin symbols depth a × IsExpressionWithin symbols depth b
IsExpressionWithin symbols depth (conjunction a b) = IsExpressionWithin symbols depth a × IsExpressionWithin symbols depth b
IsExpressionWithin symbols depth (negation a) = IsExpressionWithin symbols depth a
IsExpressionWithin symbols depth (concatenation a b) = IsExpressionWithin symbols depth a × IsExpressionWithin symbols depth b
IsExpressionWithin symbols depth (segment i n a) = IsExpressionWithin symbols depth a
IsExpressionWithin symbols depth (equality a b) = IsExpressionWithin symbols depth a × IsExpressionWithin symbols depth b
IsExpressionWithin symbols depth (selection c a b) =
    IsExpressionWithin symbols depth c × IsExpressionWithin symbols depth a × IsExpressionWithin symbols depth b

abbrev pub IsReactionWithin : ℕ → ℕ → Reaction → Type 0
IsReactionWithin symbols depth (returning e) = IsExpressionWithin symbols depth e
IsReactionWithin symbols depth (flipping w) = Unit {0}
IsReactionWithin symbols depth (reading c) = Unit {0}
IsReactionWithin symbols depth (branching e r s) =
    IsExpressionWithin symbols depth e × IsReactionWithin symbols depth r × IsReactionWithin symbols depth s
IsReactionWithin symbols depth (binding w r s) =
    IsReactionWithin symbols depth r × IsReactionWithin symbols (depth + 1) s

-- An assignment has no binder around it.
abbrev pub IsProtocolWithin : ℕ → Protocol → Type 0
IsProtocolWithin symbols nil = Unit {0}
IsProtocolWithin symbols (assignment c r) = IsReactionWithin symbols 0 r
IsProtocolWithin symbols (parallel p q) = IsProtocolWithin symbols p × IsProtocolWithin symbols q
IsProtocolWithin symbols (hiding c w p) = IsProtocolWithin symbols p

abbrev pub IsContextWithin : ℕ → Context → Type 0
IsContextWithin symbols hole = Unit {0}
IsContextWithin symbols (in_left rest q) = IsContextWithin symbols rest × IsProtocolWithin symbols q
IsContextWithin symbols (in_right p rest) = IsProtocolWithin symbols p × IsContextWithin symbols rest
IsContextWithin symbols (in_hiding c w rest) = IsContextWithin symbols rest
