-- Which channels are written, with their values.
use Rattle.std.specs.Prelude.{◌≡◌, List, Option, Some, None, if◌then◌else◌}
use Rattle.ipdl_term.specs.Terms.{Value, Channel}
use Rattle.ipdl_term.specs.Channels.{same_channel, has}

-- the value of each channel that is written
abbrev pub Valuation : Type 0
Valuation = Channel → Option Value

-- nothing is written
abbrev pub nothing : Valuation
nothing c = None

-- one channel is written
abbrev pub only : Channel → Value → Valuation
only c v = λ d. if same_channel c d then Some v else None

-- the first at the channels of the set, and the second at all others
abbrev pub combined : List Channel → Valuation → Valuation → Valuation
combined cs p q = λ c. if has cs c then p c else q c

-- without one channel
abbrev pub taken_out : Channel → Valuation → Valuation
taken_out c p = λ d. if same_channel c d then None else p d

-- without the channels of a set
abbrev pub all_taken_out : List Channel → Valuation → Valuation
all_taken_out cs p = λ d. if has cs d then None else p d

-- each pair of the first is one of the second
abbrev pub LiesWithin : Valuation → Valuation → Type 0
LiesWithin p q = (c : Channel) (v : Value) → p c ≡ Some v → q c ≡ Some v
