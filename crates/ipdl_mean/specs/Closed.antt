-- Closed protocols: protocols that read no channel from outside.
use Rattle.std.specs.Prelude.{List}
use Rattle.ipdl_forms.specs.declared.document.ProtocolItem.{ProtocolItem}
use Rattle.ipdl_sig.specs.declared.symbol.Symbol.{Symbol}
use Rattle.ipdl_term.specs.Interpretations.{Signature}
use Rattle.ipdl_term.specs.Terms.{Channel, Protocol}
use Rattle.ipdl_term.specs.Typing.{port_names}
use Rattle.ipdl_term.specs.Views.{protocol_of}
use Rattle.ipdl_typing.specs.Signatures.{signature_of}

-- an item of a document whose protocol is closed, with the symbols of the document
pub record Closed : Type 0 where
  pub symbols : List Symbol
  pub item : ProtocolItem

abbrev pub signature_in : Closed → Signature
signature_in p = signature_of p.symbols

abbrev pub body_of : Closed → Protocol
body_of p = protocol_of p.item.body

-- the outputs in the order in which they are declared
abbrev pub outputs_of : Closed → List Channel
outputs_of p = port_names p.item.interface.outputs
