-- How many nodes a term has where the nodes of two of its variables are counted otherwise: so many for the variable of the
-- number, so many for the next one, and one for each other. A rule that puts expressions for variables makes as many.
use Rattle.std.specs.Prelude.{ℕ, suc, ◌+◌, nat_eq, if◌then◌else◌}
use Rattle.ipdl_term.specs.Terms.{Expression, literal, variable, outer, application, exclusive, conjunction, negation, concatenation, segment, equality, selection, Reaction, returning, flipping, reading, branching, binding}

abbrev pub weighed_variable : (number first next n : ℕ) → ℕ
weighed_variable x a b n = if nat_eq n x then a else (if nat_eq n (suc x) then b else 1)

abbrev pub weighed_expression : (number first next : ℕ) → Expression → ℕ
weighed_expression x p q (literal bits) = 1
weighed_expression x p q (variable n) = weighed_variable x p q n
weighed_expression x p q (outer n) = 1
weighed_expression x p q (application f e) = weighed_expression x p q e + 1
weighed_expression x p q (exclusive a b) = weighed_expression x p q a + weighed_expression x p q b + 1
weighed_expression x p q (conjunction a b) = weighed_expression x p q a + weighed_expression x p q b + 1
weighed_expression x p q (negation a) = weighed_expression x p q a + 1
weighed_expression x p q (concatenation a b) = weighed_expression x p q a + weighed_expression x p q b + 1
weighed_expression x p q (segment i m a) = weighed_expression x p q a + 1
weighed_expression x p q (equality a b) = weighed_expression x p q a + weighed_expression x p q b + 1
weighed_expression x p q (selection c a b) = weighed_expression x p q c + weighed_expression x p q a + weighed_expression x p q b + 1

-- under a binder the number is one more
abbrev pub weighed_reaction : (number first next : ℕ) → Reaction → ℕ
weighed_reaction x p q (returning e) = weighed_expression x p q e + 1
weighed_reaction x p q (flipping w) = 1
weighed_reaction x p q (reading c) = 1
weighed_reaction x p q (branching e r s) = weighed_expression x p q e + weighed_reaction x p q r + weighed_reaction x p q s + 1
weighed_reaction x p q (binding w r s) = weighed_reaction x p q r + weighed_reaction (suc x) p q s + 1
