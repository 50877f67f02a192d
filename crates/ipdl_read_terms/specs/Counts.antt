-- The nodes that are counted, as a bound on the binders around.
use Rattle.std.specs.Prelude.{ℕ, ◌≤◌, Option, Some, None}
use Rattle.ipdl_term.specs.Sizes.{most_nodes}

-- nodes are counted, and there are no fewer of them than this and no more than the limit
abbrev pub IsUnder : ℕ → Option ℕ → Type 0
IsUnder depth None = ⊥
IsUnder depth (Some count) = (depth ≤ count) × (count ≤ most_nodes)
