-- Worked terms for normal forms.
use Rattle.std.specs.Prelude.{ℕ, zero, suc, false, [], ◌∷◌, codes}
use Rattle.ipdl_term.specs.Terms.{Channel, Expression, literal, variable, exclusive, concatenation, Reaction, returning, flipping, reading, binding, Protocol, assignment, parallel, hiding}

abbrev pub a : Channel
a = codes "a"

abbrev pub b : Channel
b = codes "b"

abbrev pub c : Channel
c = codes "c"

-- the innermost variable, and those of the binders around it in turn
abbrev pub v0 : Expression
v0 = variable 0

abbrev pub v1 : Expression
v1 = variable 1

abbrev pub v2 : Expression
v2 = variable 2

-- `(ret #0)`
abbrev pub returned_zero : Reaction
returned_zero = returning (literal (false ∷ []))

-- `(ret (cat E F))`
abbrev pub pair : Expression → Expression → Reaction
pair e f = returning (concatenation e f)

-- `(flip 1)`
abbrev pub coin : Reaction
coin = flipping 1

-- so many `bind`s, each of which doubles the value of the one before: the tidy form has 2 ^ n variables
abbrev pub tower : ℕ → Reaction
tower zero = returning v0
tower (suc n) = binding 1 (returning (exclusive v0 v0)) (tower n)

-- `(par (out a (read c)) (new ((c 1)) (par (out c (flip 1)) (out b (read c)))))`, in which two channels are named c
abbrev pub two_named_c : Protocol
two_named_c = parallel (assignment a (reading c)) (hiding c 1 (parallel (assignment c coin) (assignment b (reading c))))
