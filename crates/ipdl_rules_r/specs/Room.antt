-- Which rules and reactions have room for the numbers of their variables.
use Rattle.std.specs.Prelude.{ℕ, ◌+◌, ◌^◌, ◌<◌, max}
use Rattle.ipdl_term.specs.Rules.{Rule}
use Rattle.ipdl_term.specs.Rules as R
use Rattle.ipdl_term.specs.Sizes.{reaction_binders, greatest_in_expression, greatest_in_reaction}
use Rattle.ipdl_term.specs.Terms.{Reaction}

-- the greatest number of a variable in the rule's argument, 0 where there is none
abbrev pub greatest_in_rule : Rule → ℕ
greatest_in_rule (R.mask e) = greatest_in_expression e
greatest_in_rule _ = 0

-- The numbers of the variables of a rule and a reaction have 32 bits, also under all binders of the reaction and one more.
-- Terms within the limits have it by far.
abbrev pub HasRoom : Rule → Reaction → Type 0
HasRoom rule left = max (greatest_in_rule rule) (greatest_in_reaction left) + reaction_binders left + 1 < 2 ^ 32
