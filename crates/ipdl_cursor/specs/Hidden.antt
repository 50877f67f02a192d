-- The hidden channels that are visible at a place.
use Rattle.std.specs.Prelude.{ℕ, zero, List, [], ◌∷◌, ◌++◌}
use Rattle.std.specs.Option.{option_map_or}
use Rattle.ipdl_term.specs.Places.{child}
use Rattle.ipdl_term.specs.Terms.{hiding, Term, protocol_term}
use Rattle.ipdl_term.specs.declared.interface.Port.{Port}

-- the channel that the child of this number stands under, none where the term is no `new`
abbrev pub hidden_port : Term → ℕ → List Port
hidden_port (protocol_term (hiding c w p)) zero = record { name = c; width = w } ∷ []
hidden_port _ _ = []

-- the channels of each `new` that is passed on the way to a place, from the outermost
abbrev pub hidden_ports : Term → List ℕ → List Port
hidden_ports t [] = []
hidden_ports t (n ∷ place) = option_map_or (λ c. hidden_port t n ++ hidden_ports c.part place) (child t n) []
