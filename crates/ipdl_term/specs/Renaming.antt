-- Renamed terms: the free channels take new names, and the hidden ones keep theirs.
use Rattle.std.specs.Prelude.{◌≡◌, Bool, true, ◌||◌, List, [], ◌∷◌, ◌++◌, if◌then◌else◌}
use Rattle.ipdl_term.specs.Channels.{same_channel, has, free_channels}
use Rattle.ipdl_term.specs.Terms.{Channel, Reaction, returning, flipping, reading, branching, binding, Protocol, nil, assignment, parallel, hiding, Context, hole, in_left, in_right, in_hiding}

-- ---- hidden channels

-- the names of the hidden channels, as often as they are hidden
abbrev pub hidden_channels : Protocol → List Channel
hidden_channels nil = []
hidden_channels (assignment c r) = []
hidden_channels (parallel p q) = hidden_channels p ++ hidden_channels q
hidden_channels (hiding c w p) = c ∷ hidden_channels p

-- whether the channel is free in the protocol or the name of a hidden one
abbrev pub occurs : Channel → Protocol → Bool
occurs c p = has (free_channels p) c || has (hidden_channels p) c

-- the names of the channels that are hidden around the hole of a context
abbrev pub hidden_around : Context → List Channel
hidden_around hole = []
hidden_around (in_left C q) = hidden_around C
hidden_around (in_right q C) = hidden_around C
hidden_around (in_hiding c w C) = c ∷ hidden_around C

-- ---- renaming

-- the new name of each channel
abbrev pub Renaming : Type 0
Renaming = Channel → Channel

-- one channel takes a new name, and all others keep theirs
abbrev pub renaming_one : Channel → Channel → Renaming
renaming_one c d = λ e. if same_channel c e then d else e

-- the renaming of pairs of names, of which the first one of a channel counts; other channels keep their names
abbrev pub renaming_of : List (Channel × Channel) → Renaming
renaming_of [] c = c
renaming_of (pair ∷ pairs) c = if same_channel pair.0 c then pair.1 else renaming_of pairs c

-- one channel keeps its name
abbrev pub keeping : Channel → Renaming → Renaming
keeping c f = λ d. if same_channel c d then d else f d

abbrev pub renamed_reaction : Renaming → Reaction → Reaction
renamed_reaction f (returning e) = returning e
renamed_reaction f (flipping w) = flipping w
renamed_reaction f (reading c) = reading (f c)
renamed_reaction f (branching e r s) = branching e (renamed_reaction f r) (renamed_reaction f s)
renamed_reaction f (binding w r s) = binding w (renamed_reaction f r) (renamed_reaction f s)

abbrev pub renamed : Renaming → Protocol → Protocol
renamed f nil = nil
renamed f (assignment c r) = assignment (f c) (renamed_reaction f r)
renamed f (parallel p q) = parallel (renamed f p) (renamed f q)
renamed f (hiding c w p) = hiding c w (renamed (keeping c f) p)

abbrev pub renamed_context : Renaming → Context → Context
renamed_context f hole = hole
renamed_context f (in_left C q) = in_left (renamed_context f C) (renamed f q)
renamed_context f (in_right q C) = in_right (renamed f q) (renamed_context f C)
renamed_context f (in_hiding c w C) = in_hiding c w (renamed_context (keeping c f) C)

-- what a renaming is at the hole of a context: the channels that are hidden around it keep their names
abbrev pub renaming_at : Context → Renaming → Renaming
renaming_at hole f = f
renaming_at (in_left C q) f = renaming_at C f
renaming_at (in_right q C) f = renaming_at C f
renaming_at (in_hiding c w C) f = renaming_at C (keeping c f)

-- ---- renamings that keep channels apart

-- different channels of the set take different names
abbrev pub IsInjectiveOn : List Channel → Renaming → Type 0
IsInjectiveOn cs f = (c d : Channel) → has cs c ≡ true → has cs d ≡ true → f c ≡ f d → c ≡ d

-- no channel of the set takes the name of a hidden channel of the protocol, unless that was its name before
abbrev pub CapturesNone : List Channel → Renaming → Protocol → Type 0
CapturesNone cs f p = (c : Channel) → has cs c ≡ true → has (hidden_channels p) (f c) ≡ true → f c ≡ c
