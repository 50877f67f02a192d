-- Two protocols that no fixed inputs tell apart, and that a context does.
use Rattle.std.specs.Prelude.{[], ◌∷◌, List, codes}
use Rattle.ipdl_term.specs.Counts.{History}
use Rattle.ipdl_term.specs.Terms.{Channel, literal, variable, Reaction, returning, flipping, reading, branching, binding, Protocol, assignment, parallel, hiding, Context, hole, in_left}
use Rattle.ipdl_term.specs.Typing.{Scope, scope_with, no_scope}
use Rattle.ipdl_term.specs.Worked.{a, b, k}

abbrev pub input : Channel
input = codes "i"

-- `(new ((k 1)) (par (out k (flip 1)) (out a (bind x 1 (read k) (if x (ret #) (read i))))
-- (out b (bind x 1 (read k) (if x THEN ELSE)))))`
abbrev pub with_arms : Reaction → Reaction → Protocol
with_arms r s =
    hiding k 1 (parallel (assignment k (flipping 1))
    (parallel (assignment a (binding 1 (reading k) (branching (variable 0) (returning (literal [])) (reading input))))
    (assignment b (binding 1 (reading k) (branching (variable 0) r s)))))

-- b copies i where a does not, and else waits for itself
abbrev pub in_turn : Protocol
in_turn = with_arms (reading input) (reading b)

-- b copies i where a does
abbrev pub at_once : Protocol
at_once = with_arms (reading b) (reading input)

-- one input, i, and the outputs a and b, all of no bits
abbrev pub empty_values : Scope
empty_values = scope_with input 0 (scope_with a 0 (scope_with b 0 no_scope))

abbrev pub a_and_b : List Channel
a_and_b = a ∷ b ∷ []

-- a, b and i are all written, with no bits
abbrev pub all_empty : History
all_empty = (a, []) ∷ (b, []) ∷ (input, []) ∷ []

-- `(out i (read a))` beside the hole
abbrev pub fed_back : Context
fed_back = in_left hole (assignment input (reading a))
