-- Which questions are refused, and by what number. Each of these is told where no earlier one is.
use Rattle.std.specs.Prelude.{◌≡◌, ℕ, ◌<◌, ◌≤◌, None, Some}
use Rattle.ipdl_term.specs.Sizes.{saturated}
use Rattle.ipdl_truth.specs.FreeVariables.{greatest_free_bits}
use Rattle.ipdl_truth.specs.Questions.{Question, first_abstract, weight_of, free_bits}
use Rattle.ipdl_truth.specs.Weights.{greatest_weight}

-- an abstract symbol occurs, first this one
abbrev pub IsAbstract : Question → ℕ → Type 0
IsAbstract q symbol = first_abstract q ≡ Some symbol

-- the widths of all subexpressions add up to too much, and this is their sum
abbrev pub IsLarge : Question → ℕ → Type 0
IsLarge q bits = (first_abstract q ≡ None) × (greatest_weight < weight_of q) × (bits ≡ saturated (weight_of q))

-- the widths of the free variables do, and this is their sum
abbrev pub IsTooWide : Question → ℕ → Type 0
IsTooWide q bits =
    (first_abstract q ≡ None) × (weight_of q ≤ greatest_weight) × (greatest_free_bits < free_bits q) × (bits ≡ free_bits q)
