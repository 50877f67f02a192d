-- A count of faults, which rises at each fault and stands at its last value.
use Rattle.std.specs.Prelude.{◌≡◌, ℕ, ◌+◌, ◌-◌, ◌^◌, ◌<◌, min}

-- the value at which a count stands
abbrev pub last_count : ℕ
last_count = 2 ^ 64 - 1

-- the count after one more fault
abbrev pub next_count : ℕ → ℕ
next_count n = min (n + 1) last_count

-- when a fault may be told: the count rose, unless it stands at its last value
abbrev pub MayHaveRisen : ℕ → ℕ → Type 0
MayHaveRisen before now = now < last_count → before < now

-- what follows from a fault: the count rose
abbrev pub HasRisen : ℕ → ℕ → Type 0
HasRisen before now = before < now

-- there was no fault: the count is as it was, and does not stand at its last value
abbrev pub DidNotRise : ℕ → ℕ → Type 0
DidNotRise before now = (now ≡ before) × (now < last_count)
