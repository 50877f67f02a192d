-- Looking up the items of a document.
use Rattle.std.specs.Prelude.{ℕ, List, [], ◌∷◌, bytes_eq, Option, Some, None, if◌then◌else◌}
use Rattle.ipdl_forms.specs.declared.document.Item.{Item}
use Rattle.ipdl_forms.specs.declared.document.Item.TheVariants as I
use Rattle.ipdl_forms.specs.declared.document.ProtocolItem.{ProtocolItem}

-- the first protocol of the name
abbrev pub protocol_named : List Item → List ℕ → Option ProtocolItem
protocol_named [] name = None
protocol_named (I.Symbol n ∷ items) name = protocol_named items name
protocol_named (I.Protocol p ∷ items) name = if bytes_eq p.name name then Some p else protocol_named items name
protocol_named (I.Assumption a ∷ items) name = protocol_named items name
protocol_named (I.Theorem t ∷ items) name = protocol_named items name
