-- Where and how often a reaction reads a channel.
use Rattle.std.specs.Prelude.{◌≡◌, ℕ, ◌+◌, List, Some, if◌then◌else◌}
use Rattle.ipdl_term.specs.Channels.{same_channel}
use Rattle.ipdl_term.specs.Places.{term_at}
use Rattle.ipdl_term.specs.Terms.{Channel, Reaction, returning, flipping, reading, branching, binding, reaction_term}

-- the channel is read at the place
abbrev pub IsReadAt : Channel → Reaction → (place : List ℕ) → Type 0
IsReadAt c k place = term_at (reaction_term k) place ≡ Some (reaction_term (reading c))

-- and at no other one
abbrev pub IsReadOnlyAt : Channel → Reaction → (place : List ℕ) → Type 0
IsReadOnlyAt c k place = (other : List ℕ) → IsReadAt c k other → other ≡ place

-- the number of places at which the channel is read
abbrev pub read_count : Channel → Reaction → ℕ
read_count c (returning e) = 0
read_count c (flipping w) = 0
read_count c (reading d) = if same_channel c d then 1 else 0
read_count c (branching e r s) = read_count c r + read_count c s
read_count c (binding w r s) = read_count c r + read_count c s
