-- What a run of a reaction gives, and what the assignments have written so far.
use Rattle.std.specs.Prelude.{◌≡◌, ℕ, ◌+◌, ◌≤◌, Bool, List, [], ◌∷◌, Option, Some, None, slice_get}
use Rattle.ipdl_term.specs.Networks.{Written}
use Rattle.ipdl_term.specs.Reactions.{Outcome}
use Rattle.ipdl_term.specs.Terms.{Value, Reaction, returning, flipping, reading, branching, binding}

-- each `flip` of the reaction gives a value that is not too wide
abbrev pub HasNarrowFlips : Reaction → Type 0
HasNarrowFlips (returning e) = Unit {0}
HasNarrowFlips (flipping w) = w ≤ 128
HasNarrowFlips (reading c) = Unit {0}
HasNarrowFlips (branching e r s) = HasNarrowFlips r × HasNarrowFlips s
HasNarrowFlips (binding w r s) = HasNarrowFlips r × HasNarrowFlips s

-- the value at a number, if there is one
abbrev pub value_there : Option (Option Value) → Option Value
value_there None = None
value_there (Some value) = value

-- what is written, by number
abbrev pub written_in : List (Option Value) → Written
written_in values number = value_there (slice_get values number)

-- how many values are missing
abbrev pub missing : List (Option Value) → ℕ
missing [] = 0
missing (None ∷ values) = missing values + 1
missing (Some v ∷ values) = missing values

-- a run came to the outcome: it is stuck, or it gives this value and leaves this of the tape, and of the writers what
-- stands behind those of the reaction
abbrev pub Ends : Option Value → (tape : List Bool) → (writers behind : List (Option ℕ)) → Outcome → Type 0
Ends None tape writers behind outcome = outcome ≡ None
Ends (Some v) tape writers behind outcome = (outcome ≡ Some (v, tape)) × (writers ≡ behind)
