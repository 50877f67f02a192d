-- What a run does to the bytes that a source has left and to those that a sink has taken.
use Rattle.std.specs.Prelude.{◌≡◌, ℕ, ◌+◌, ◌≤◌, List, length, take, Option}
use Rattle.std.specs.Io.KnownBytes.{prepend_known, append_known}
use Rattle.ipdl_base.specs.Limits.{limit_number}
use Rattle.ipdl_base.specs.declared.limit.Limit.TheVariants.{Source}

-- the most bytes that a source may have
abbrev pub source_limit : ℕ
source_limit = limit_number Source

-- the source gave these bytes and no others
abbrev pub Gave : Option (List ℕ) → Option (List ℕ) → List ℕ → Type 0
Gave left left' bytes = left ≡ prepend_known bytes left'

-- the source gave at most one byte more than the limit
abbrev pub GaveSome : Option (List ℕ) → Option (List ℕ) → Type 0
GaveSome left left' = (bytes : List ℕ) × (length bytes ≤ source_limit + 1) × Gave left left' bytes

-- the source gave one byte more than the limit
abbrev pub GaveTooMany : Option (List ℕ) → Option (List ℕ) → Type 0
GaveTooMany left left' = (bytes : List ℕ) × (length bytes ≡ source_limit + 1) × Gave left left' bytes

-- the sink took these bytes and no others
abbrev pub Took : Option (List ℕ) → Option (List ℕ) → List ℕ → Type 0
Took taken taken' text = taken' ≡ append_known taken text

-- the sink took the first bytes of the text and no others
abbrev pub TookFront : Option (List ℕ) → Option (List ℕ) → List ℕ → Type 0
TookFront taken taken' text = (n : ℕ) × Took taken taken' (take n text)
