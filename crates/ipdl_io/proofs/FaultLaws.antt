-- How the sentences on a count of faults go together.
use Rattle.std.proofs.Common.{◌≡◌, ℕ, ◌≤◌, ◌<◌, refl, arith}
use Rattle.ipdl_io.specs.Faults.{last_count, next_count, MayHaveRisen, HasRisen, DidNotRise}

-- a count stands at its last value
pub next_count-last_count : next_count last_count ≡ last_count
next_count-last_count = refl

-- a count stays within its last value
pub next_count-bound : (n : ℕ) → next_count n ≤ last_count
next_count-bound n = omega arith

-- a count within its last value does not fall
pub next_count-growth : (n : ℕ) → n ≤ last_count → n ≤ next_count n
next_count-growth n within = omega arith

-- one more fault may be told
pub MayHaveRisen-next_count : (n : ℕ) → MayHaveRisen n (next_count n)
MayHaveRisen-next_count n below = omega arith

-- where the count rose a fault may be told
pub MayHaveRisen-HasRisen : (before now : ℕ) → HasRisen before now → MayHaveRisen before now
MayHaveRisen-HasRisen before now rose below = rose

-- what may be told since a later count may be told since an earlier one
pub MayHaveRisen-earlier : (earlier before now : ℕ) → earlier ≤ before → MayHaveRisen before now → MayHaveRisen earlier now
MayHaveRisen-earlier earlier before now order rose below = let risen : before < now = rose below in omega arith

-- what may be told at a count may be told at a later one
pub MayHaveRisen-later : (before now later : ℕ) → now ≤ later → MayHaveRisen before now → MayHaveRisen before later
MayHaveRisen-later before now later order rose below =
    let still_below : now < last_count = omega arith in
    let risen : before < now = rose still_below in
    omega arith

-- where the count did not rise no fault may be told
pub DidNotRise-MayHaveRisen : (before now : ℕ) → DidNotRise before now → MayHaveRisen before now → ⊥
DidNotRise-MayHaveRisen before now kept rose = let risen : before < now = rose kept.1 in omega (arith, kept.0)
