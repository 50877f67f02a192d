-- The protocols that the items of a document name.
use Rattle.std.specs.Prelude.{ℕ, List, [], ◌∷◌, bytes_eq, Option, Some, None, if◌then◌else◌}
use Rattle.ipdl_forms.specs.Documents.{Entry, symbol_entry, protocol_entry, assumption_entry, theorem_entry}
use Rattle.ipdl_forms.specs.declared.document.ProtocolItem.{ProtocolItem}
use Rattle.ipdl_term.specs.Terms.{Protocol}
use Rattle.ipdl_term.specs.Views.{protocol_of}
use Rattle.ipdl_term.specs.declared.interface.Interface.{Interface}

-- a protocol with its interface
pub record Network : Type 0 where
  pub interface : Interface
  pub body : Protocol

-- the first protocol of the name
abbrev pub network_named : List Entry → List ℕ → Option Network
network_named [] name = None
network_named (symbol_entry n s ∷ entries) name = network_named entries name
network_named (protocol_entry other interface body ∷ entries) name =
    if bytes_eq other name then Some (record { interface = interface; body = body }) else network_named entries name
network_named (assumption_entry other left right ∷ entries) name = network_named entries name
network_named (theorem_entry other left right lefts rights ∷ entries) name = network_named entries name

-- what a protocol of the program stands for
abbrev pub network_of : ProtocolItem → Network
network_of item = record { interface = item.interface; body = protocol_of item.body }
