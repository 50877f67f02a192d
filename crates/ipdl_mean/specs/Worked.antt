-- Worked networks, whose values are computed from the definitions.
use Rattle.std.specs.Prelude.{true, false, [], ◌∷◌}
use Rattle.ipdl_term.specs.Terms.{Channel, returning, flipping, reading, binding, variable, negation, literal, Protocol, assignment, parallel, hiding}

abbrev pub a : Channel
a = 97 ∷ []

abbrev pub b : Channel
b = 98 ∷ []

abbrev pub s : Channel
s = 115 ∷ []

-- a flip, its negation, and a channel that waits for itself
abbrev pub flipped : Protocol
flipped =
    parallel (assignment a (flipping 1)) (parallel (assignment b (binding 1 (reading a) (returning (negation (variable 0))))) (assignment s (reading s)))

-- a is an output with the value 1, and inside of b it is hidden with the value 0; b reads the hidden one
abbrev pub hidden : Protocol
hidden =
    parallel (assignment a (returning (literal (true ∷ [])))) (hiding a 1 (parallel (assignment b (reading a)) (assignment a (returning (literal (false ∷ []))))))
