-- Sets of channels, and which channels a term has. A set is a list; in what order is open.
use Rattle.std.specs.Prelude.{◌≡◌, Bool, true, false, ◌||◌, List, [], ◌∷◌, nat_eq, if◌then◌else◌}
use Rattle.ipdl_term.specs.Terms.{Channel, Reaction, returning, flipping, reading, branching, binding, Protocol, nil, assignment, parallel, hiding}

-- ---- sets

-- whether two channels are the same
abbrev pub same_channel : Channel → Channel → Bool
same_channel [] [] = true
same_channel (x ∷ xs) (y ∷ ys) = if nat_eq x y then same_channel xs ys else false
same_channel _ _ = false

-- whether the set has the channel
abbrev pub has : List Channel → Channel → Bool
has [] c = false
has (d ∷ ds) c = same_channel d c || has ds c

-- the set without the channel
abbrev pub without : Channel → List Channel → List Channel
without c [] = []
without c (d ∷ ds) = if same_channel c d then without c ds else (d ∷ without c ds)

-- the channels of either set, none of them twice if none is twice in either
abbrev pub union : List Channel → List Channel → List Channel
union [] ds = ds
union (c ∷ cs) ds = if has ds c then union cs ds else (c ∷ union cs ds)

-- the channels of both sets
abbrev pub intersection : List Channel → List Channel → List Channel
intersection [] ds = []
intersection (c ∷ cs) ds = if has ds c then (c ∷ intersection cs ds) else intersection cs ds

-- the same channels in both
abbrev pub SameSet : List Channel → List Channel → Type 0
SameSet cs ds = (c : Channel) → has cs c ≡ has ds c

-- each channel of the first is in the second
abbrev pub IsWithin : List Channel → List Channel → Type 0
IsWithin cs ds = (c : Channel) → has cs c ≡ true → has ds c ≡ true

-- no channel is in both
abbrev pub AreDisjoint : List Channel → List Channel → Type 0
AreDisjoint cs ds = (c : Channel) → has cs c ≡ true → has ds c ≡ false

-- ---- the channels of terms

-- every channel that is read
abbrev pub reads : Reaction → List Channel
reads (returning e) = []
reads (flipping w) = []
reads (reading c) = c ∷ []
reads (branching e r s) = union (reads r) (reads s)
reads (binding w r s) = union (reads r) (reads s)

-- the channels that are read on every way through the reaction
abbrev pub must_reads : Reaction → List Channel
must_reads (returning e) = []
must_reads (flipping w) = []
must_reads (reading c) = c ∷ []
must_reads (branching e r s) = intersection (must_reads r) (must_reads s)
must_reads (binding w r s) = union (must_reads r) (must_reads s)

-- the channels that are written and not hidden
abbrev pub outputs : Protocol → List Channel
outputs nil = []
outputs (assignment c r) = c ∷ []
outputs (parallel p q) = union (outputs p) (outputs q)
outputs (hiding c w p) = without c (outputs p)

-- the channels that are written or read and not bound
abbrev pub free_channels : Protocol → List Channel
free_channels nil = []
free_channels (assignment c r) = union (c ∷ []) (reads r)
free_channels (parallel p q) = union (free_channels p) (free_channels q)
free_channels (hiding c w p) = without c (free_channels p)
