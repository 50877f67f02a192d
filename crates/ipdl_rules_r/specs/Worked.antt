-- Worked reactions and a worked signature for the rules.
use Rattle.std.specs.Prelude.{true, false, [], ◌∷◌, Some, None, codes}
use Rattle.ipdl_term.specs.Interpretations.{Signature}
use Rattle.ipdl_term.specs.Terms.{Channel, Expression, variable, Reaction, returning, reading, flipping, concatenation}

abbrev pub c : Channel
c = codes "c"

-- the innermost variable, and those of the binders around it in turn
abbrev pub v0 : Expression
v0 = variable 0

abbrev pub v1 : Expression
v1 = variable 1

abbrev pub v2 : Expression
v2 = variable 2

abbrev pub v3 : Expression
v3 = variable 3

-- `(read c)`
abbrev pub read_c : Reaction
read_c = reading c

-- `(flip 1)`
abbrev pub coin : Reaction
coin = flipping 1

-- `(ret (cat A B))`
abbrev pub pair : Expression → Expression → Reaction
pair a b = returning (concatenation a b)

-- `(ret (cat A (cat B D)))`
abbrev pub triple : Expression → Expression → Expression → Reaction
triple a b d = pair a (concatenation b d)

-- symbols of one bit: a table that exchanges the two values, a table that repeats a value, and one that is no table
abbrev pub symbols : Signature
symbols =
    record { from = 1; to = 1; values = Some ((true ∷ []) ∷ (false ∷ []) ∷ []) }
    ∷ record { from = 1; to = 1; values = Some ((true ∷ []) ∷ (true ∷ []) ∷ []) }
    ∷ record { from = 1; to = 1; values = None }
    ∷ []
