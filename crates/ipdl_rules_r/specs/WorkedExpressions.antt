-- Worked expressions in surroundings.
use Rattle.std.specs.Prelude.{ℕ, List, [], ◌∷◌, true, false}
use Rattle.ipdl_rules_r.specs.Worked.{v0, v1}
use Rattle.ipdl_term.specs.Interpretations.{zeros}
use Rattle.ipdl_term.specs.Surroundings.{Condition}
use Rattle.ipdl_term.specs.Terms.{Expression, literal, exclusive, equality}

-- `(xor x x)`
abbrev pub cancelled : Expression
cancelled = exclusive v0 v0

-- a literal of so many zeros
abbrev pub nothing_of : ℕ → Expression
nothing_of width = literal (zeros width)

-- an inner variable of one bit, and an outer one of two
abbrev pub two_binders : List ℕ
two_binders = 1 ∷ 2 ∷ []

-- in the arm where the inner one is not set, within the arm where the outer one is `#00`
abbrev pub two_arms : List Condition
two_arms =
    record { test = v0; value = false }
    ∷ record { test = equality v1 (nothing_of 2); value = true }
    ∷ []
