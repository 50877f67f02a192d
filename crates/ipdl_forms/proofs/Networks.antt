-- The protocol of a name among the items of a document.
use Rattle.std.proofs.Common.{◌≡◌, ℕ, Bool, true, false, List, [], ◌∷◌, map, Option, Some, refl, ap, ◌∙◌, sym}
use Rattle.std.specs.Prelude.{bytes_eq, option_map, if◌then◌else◌}
use Rattle.ipdl_forms.specs.Documents.{document_of, entry_of}
use Rattle.ipdl_forms.specs.Lookups.{protocol_named}
use Rattle.ipdl_forms.specs.Networks.{Network, network_named, network_of}
use Rattle.ipdl_forms.specs.declared.document.Document.{Document as Held}
use Rattle.ipdl_forms.specs.declared.document.Item.{Item}
use Rattle.ipdl_forms.specs.declared.document.Item.TheVariants as I
use Rattle.ipdl_forms.specs.declared.document.ProtocolItem.{ProtocolItem}
use Rattle.ipdl_sig.specs.declared.symbol.Symbol.{Symbol}

one_more : (b : Bool) (p : ProtocolItem) (rest : Option Network) (found : Option ProtocolItem) → rest ≡ option_map network_of found → (if b then Some (network_of p) else rest) ≡ option_map network_of (if b then Some p else found)
one_more true p rest found e = refl
one_more false p rest found e = e

network_named-items : (symbols : List Symbol) (items : List Item) (name : List ℕ) → network_named (map (entry_of symbols) items) name ≡ option_map network_of (protocol_named items name)
network_named-items symbols [] name = refl
network_named-items symbols (I.Symbol n ∷ items) name = network_named-items symbols items name
network_named-items symbols (I.Protocol p ∷ items) name =
    one_more (bytes_eq p.name name) p (network_named (map (entry_of symbols) items) name) (protocol_named items name) (network_named-items symbols items name)
network_named-items symbols (I.Assumption a ∷ items) name = network_named-items symbols items name
network_named-items symbols (I.Theorem t ∷ items) name = network_named-items symbols items name

-- what was found among the items
pub network_named-found : (symbols : List Symbol) (items : List Item) (name : List ℕ) (found : Option ProtocolItem) → found ≡ protocol_named items name → network_named (map (entry_of symbols) items) name ≡ option_map network_of found
network_named-found symbols items name found e = network_named-items symbols items name ∙ ap (option_map network_of) (sym e)

-- what was found by a copy of the name
pub network_named-by_copy : (d : Held) (name copy : List ℕ) (found : Option ProtocolItem) → copy ≡ name → found ≡ protocol_named d.items copy → network_named (document_of d).entries name ≡ option_map network_of found
network_named-by_copy d name copy found same e =
    network_named-found d.sig d.items name found (e ∙ ap (protocol_named d.items) same)
