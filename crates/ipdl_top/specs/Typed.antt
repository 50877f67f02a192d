-- The types of the items of a document: which test of an item fails, and which items are well typed.
use Rattle.std.specs.Prelude.{ℕ, ◌≤◌, nat_lt, List, [], ◌∷◌, Option, Some, None, option_map, if◌then◌else◌}
use Rattle.ipdl_base.specs.Limits.{limit_number}
use Rattle.ipdl_base.specs.declared.limit.Limit.TheVariants.{Channels}
use Rattle.ipdl_sig.specs.declared.symbol.Symbol.{Symbol}
use Rattle.ipdl_term.specs.declared.interface.Interface.{Interface}
use Rattle.ipdl_term.specs.Sizes.{channel_count, printed_depth, greatest_printed_depth}
use Rattle.ipdl_term.specs.Terms.{Protocol}
use Rattle.ipdl_term.specs.Typing.{HasInterface}
use Rattle.ipdl_typing.specs.Checks.{first_failure, side_failures}
use Rattle.ipdl_typing.specs.Interfaces.{SamePorts, interface_failures}
use Rattle.ipdl_typing.specs.Signatures.{signature_of}
use Rattle.ipdl_forms.specs.Documents.{Document, Entry, symbol_entry, protocol_entry, assumption_entry, theorem_entry}
use Rattle.ipdl_forms.specs.Networks.{Network, network_named}
use Rattle.ipdl_top.specs.Refusals.{ill, many_channels, too_deep, first_refusal}
use Rattle.ipdl_top.specs.Statuses.{Refusal}

-- ---- the test that fails

abbrev pub protocol_refusal : List Symbol → (item : List ℕ) → Interface → Protocol → Option Refusal
protocol_refusal symbols item declared body =
    if nat_lt (limit_number Channels) (channel_count body) then Some (many_channels item)
    else (if nat_lt greatest_printed_depth (printed_depth body) then Some (too_deep item)
    else option_map (ill item) (first_failure (interface_failures (signature_of symbols) declared body)))

-- two protocols that are not of one interface
abbrev pub sides_refusal : (item : List ℕ) → (left right : Option Network) → Option Refusal
sides_refusal item (Some left) (Some right) =
    option_map (ill item) (first_failure (side_failures left.interface right.interface))
sides_refusal item (Some left) None = None
sides_refusal item None right = None

-- the first test of an item that fails
abbrev pub item_refusal : List Symbol → List Entry → Entry → Option Refusal
item_refusal symbols entries (symbol_entry n s) = None
item_refusal symbols entries (protocol_entry name declared body) = protocol_refusal symbols name declared body
item_refusal symbols entries (assumption_entry name left right) =
    sides_refusal name (network_named entries left) (network_named entries right)
item_refusal symbols entries (theorem_entry name left right lefts rights) =
    sides_refusal name (network_named entries left) (network_named entries right)

-- each item is judged by its types, whatever its index
abbrev pub judged_by_type : Document → ℕ → Entry → Option Refusal
judged_by_type d index item = item_refusal d.symbols d.entries item

-- that of the first item that is not well typed
abbrev pub type_refusal : Document → Option Refusal
type_refusal d = first_refusal (judged_by_type d) 0 d.entries

-- ---- well typed

-- there are two protocols, which read and write the same channels
abbrev pub HaveSamePorts : (left right : Option Network) → Type 0
HaveSamePorts (Some left) (Some right) =
    SamePorts left.interface.inputs right.interface.inputs × SamePorts left.interface.outputs right.interface.outputs
HaveSamePorts (Some left) None = ⊥
HaveSamePorts None right = ⊥

-- a body within the limits that has the interface
pub record IsTypedProtocol (symbols : List Symbol) (declared : Interface) (body : Protocol) : Type 0 where
  pub few : channel_count body ≤ limit_number Channels
  pub shallow : printed_depth body ≤ greatest_printed_depth
  pub typed : HasInterface (signature_of symbols) declared body

abbrev pub IsTypedItem : List Symbol → List Entry → Entry → Type 0
IsTypedItem symbols entries (symbol_entry n s) = Unit {0}
IsTypedItem symbols entries (protocol_entry name declared body) = IsTypedProtocol symbols declared body
IsTypedItem symbols entries (assumption_entry name left right) =
    HaveSamePorts (network_named entries left) (network_named entries right)
IsTypedItem symbols entries (theorem_entry name left right lefts rights) =
    HaveSamePorts (network_named entries left) (network_named entries right)

abbrev pub AreTyped : List Symbol → List Entry → List Entry → Type 0
AreTyped symbols entries [] = Unit {0}
AreTyped symbols entries (item ∷ items) = IsTypedItem symbols entries item × AreTyped symbols entries items

-- each item is well typed. A body cannot name a later symbol, so all of them are known to it
abbrev pub IsTypedDocument : Document → Type 0
IsTypedDocument d = AreTyped d.symbols d.entries d.entries
