-- Which rules and protocols have room for the numbers of their variables.
use Rattle.std.specs.Prelude.{◌+◌, ◌^◌, ◌<◌}
use Rattle.ipdl_term.specs.Rules.{Rule}
use Rattle.ipdl_term.specs.Rules as R
use Rattle.ipdl_term.specs.Sizes.{protocol_binders, greatest_in_protocol}
use Rattle.ipdl_term.specs.Terms.{Protocol}

-- The numbers of the variables have 32 bits: for `drop` also under all binders, and for `subsume` also when they have grown
-- by one. The other rules change none. Closed protocols within the limits have room by far.
abbrev pub HasRoom : Rule → Protocol → Type 0
HasRoom R.drop left = greatest_in_protocol left + protocol_binders left < 2 ^ 32
HasRoom (R.subsume c w) left = greatest_in_protocol left + 1 < 2 ^ 32
HasRoom _ left = Unit {0}
