-- What the call for the shape gathers from a protocol, as the contracts see it, and what it makes of that from the last on.
use Rattle.std.specs.Borrow.{Bor}
use Rattle.std.specs.Prelude.{ℕ, List, [], ◌∷◌, Option, Some, None, map}
use Rattle.ipdl_term.specs.Terms.{Channel, Reaction, Protocol, assignment, parallel}
use Rattle.ipdl_term.specs.Views.{reaction_of}
use Rattle.ipdl_term.specs.declared.reaction.React.{React}

-- a hidden channel of a name that is lent
abbrev pub lent_channel : Bor Channel × ℕ → Channel × ℕ
lent_channel h = (h.0.now, h.1)

abbrev pub hidden_of : List (Bor Channel × ℕ) → List (Channel × ℕ)
hidden_of hs = map lent_channel hs

-- an assignment of a name and a reaction that are lent
abbrev pub lent_assignment : Bor Channel × Bor React → Channel × Reaction
lent_assignment x = (x.0.now, reaction_of x.1.now)

abbrev pub assignments_of : List (Bor Channel × Bor React) → List (Channel × Reaction)
assignments_of xs = map lent_assignment xs

-- an assignment beside the rest, if there is one
abbrev pub beside : Channel × Reaction → Option Protocol → Protocol
beside x None = assignment x.0 x.1
beside x (Some rest) = parallel (assignment x.0 x.1) rest

-- the assignments in front of the rest
abbrev pub in_front : List (Channel × Reaction) → Option Protocol → Option Protocol
in_front [] rest = rest
in_front (x ∷ xs) rest = Some (beside x (in_front xs rest))
