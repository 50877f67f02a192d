use Rattle.std.proofs.Common.{◌≡◌, drop}
use Rattle.ipdl_forms.specs.Lookups.{protocol_named}
use Rattle.ipdl_forms.proofs.lookup.protocol_among.Given as goal

abbrev pub invariant-loop-item : goal.invariant-loop-item
invariant-loop-item l = protocol_named l.items l.name ≡ protocol_named (drop l.item-index l.items) l.name
