use Rattle.std.proofs.Common.{◌≡◌, drop}
use Rattle.ipdl_script.specs.NamedItems.{assumption_named}
use Rattle.ipdl_script.proofs.known_named.assumption_among.Given as goal

abbrev pub invariant-loop-item : goal.invariant-loop-item
invariant-loop-item l = assumption_named l.items l.name ≡ assumption_named (drop l.item-index l.items) l.name
