-- What the walks over a place need of a term's children.
use Rattle.std.specs.Prelude.{ℕ, Option, option_map}
use Rattle.ipdl_term.specs.Places.{child}
use Rattle.ipdl_term.specs.Terms.{Term}

-- the child of this number
abbrev pub child_part : Term → ℕ → Option Term
child_part t n = option_map (λ c. c.part) (child t n)
