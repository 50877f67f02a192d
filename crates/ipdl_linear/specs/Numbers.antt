-- Lists of numbers as sets.
use Rattle.std.specs.Prelude.{ℕ, suc, ◌<◌, Bool, false, ◌||◌, List, [], ◌∷◌, Option, Some, None, nat_eq, nat_lt, option_map, if◌then◌else◌}

abbrev pub has : List ℕ → ℕ → Bool
has [] m = false
has (k ∷ ks) m = nat_eq k m || has ks m

-- all are greater than the number
abbrev pub AreAbove : ℕ → List ℕ → Type 0
AreAbove m [] = Unit {0}
AreAbove m (k ∷ ks) = (m < k) × AreAbove m ks

-- each is greater than the one before it
abbrev pub IsIncreasing : List ℕ → Type 0
IsIncreasing [] = Unit {0}
IsIncreasing (k ∷ ks) = AreAbove k ks × IsIncreasing ks

-- Two increasing lists, each number once, and those left out that both have. The second list goes on to a list whose
-- numbers are k and then ks, of which the rest is merged as told.
abbrev pub merged_onto : ℕ → List ℕ → (List ℕ → List ℕ) → List ℕ → List ℕ
merged_onto k ks rest [] = k ∷ ks
merged_onto k ks rest (l ∷ ls) =
    if nat_lt k l then (k ∷ rest (l ∷ ls)) else (if nat_lt l k then (l ∷ merged_onto k ks rest ls) else rest ls)

abbrev pub merged : List ℕ → List ℕ → List ℕ
merged [] ls = ls
merged (k ∷ ks) ls = merged_onto k ks (merged ks) ls

-- the first place at which two lists are not the same, or at which only one of them goes on
abbrev pub first_unequal : List ℕ → List ℕ → Option ℕ
first_unequal [] [] = None
first_unequal (k ∷ ks) (l ∷ ls) = if nat_eq k l then option_map suc (first_unequal ks ls) else Some 0
first_unequal _ _ = Some 0
