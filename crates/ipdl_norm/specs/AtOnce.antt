-- What a reaction returns at once, before it does anything.
use Rattle.std.specs.Prelude.{ℕ, zero, ◌-◌, Bool, true, false, Option, Some, None, nat_eq, if◌then◌else◌}
use Rattle.ipdl_term.specs.Terms.{variable, Reaction, returning, flipping, reading, branching, binding}

-- whether it returns variable 0
abbrev pub returns_first : Reaction → Bool
returns_first (returning (variable zero)) = true
returns_first _ = false

-- whether it is a `flip`, a `read` or an `if`
abbrev pub is_action : Reaction → Bool
is_action (returning e) = false
is_action (flipping w) = true
is_action (reading c) = true
is_action (branching e r s) = true
is_action (binding w r s) = false

-- none where it does not return at once; else the number of the variable that it returns, none where that is another
-- expression
abbrev pub at_once : Reaction → Option (Option ℕ)
at_once (returning (variable n)) = Some (Some n)
at_once (returning e) = Some None
at_once _ = None

-- the variable that is returned behind a value, where what follows returns that variable or another one
abbrev pub variable_then : Option ℕ → ℕ → Option ℕ
variable_then first n = if nat_eq n 0 then first else Some (n - 1)

-- the same of two tidy reactions one after the other
abbrev pub at_once_then : Option (Option ℕ) → Option (Option ℕ) → Option (Option ℕ)
at_once_then None second = None
at_once_then (Some first) None = None
at_once_then (Some first) (Some None) = Some None
at_once_then (Some first) (Some (Some n)) = Some (variable_then first n)
