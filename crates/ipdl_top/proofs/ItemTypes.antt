-- No test of an item fails where, and only where, all items are well typed.
use Rattle.std.proofs.Common.{◌≡◌, ℕ, suc, nat_lt, Bool, true, false, List, [], ◌∷◌, Option, Some, None, refl, ap, ap₂, ◌∙◌}
use Rattle.std.proofs.lemmas.Bool.{le-ltb, ltb-false}
use Rattle.std.specs.Prelude.{option_map, if◌then◌else◌}
use Rattle.ipdl_base.specs.Limits.{limit_number}
use Rattle.ipdl_base.specs.declared.limit.Limit.TheVariants.{Channels}
use Rattle.ipdl_sig.specs.declared.symbol.Symbol.{Symbol}
use Rattle.ipdl_term.specs.declared.interface.Interface.{Interface}
use Rattle.ipdl_term.specs.Sizes.{channel_count, printed_depth, greatest_printed_depth}
use Rattle.ipdl_term.specs.Terms.{Protocol}
use Rattle.ipdl_typing.specs.Checks.{Failure, first_failure, side_failures}
use Rattle.ipdl_typing.specs.Interfaces.{interface_failures}
use Rattle.ipdl_typing.specs.Signatures.{signature_of}
use Rattle.ipdl_typing.proofs.ProtocolTyping.{HasInterface-clean}
use Rattle.ipdl_typing.proofs.Typed.{interface-HasInterface}
use Rattle.ipdl_typing.proofs.Ports.{SamePorts-sides, sides-SamePorts}
use Rattle.ipdl_forms.specs.Documents.{Document, Entry, symbol_entry, protocol_entry, assumption_entry, theorem_entry}
use Rattle.ipdl_forms.specs.Networks.{Network, network_named}
use Rattle.ipdl_top.specs.Refusals.{ill, first_refusal}
use Rattle.ipdl_top.specs.Statuses.{Refusal}
use Rattle.ipdl_top.specs.Typed.{protocol_refusal, sides_refusal, item_refusal, judged_by_type, type_refusal, HaveSamePorts, IsTypedProtocol, IsTypedItem, AreTyped, IsTypedDocument}
use Rattle.ipdl_top.proofs.Firsts.{neither, no_first}
use Rattle.ipdl_top.proofs.Named.{HasSides, HaveSides}

-- ---- choices

-- a test that refuses does not
pub passed : (b : Bool) (r : Refusal) (later : Option Refusal) → (if b then Some r else later) ≡ None → (b ≡ false) × (later ≡ None)
passed true r later e = cc
passed false r later e = (refl, e)

pub not_refused : (b : Bool) (r : Refusal) (later : Option Refusal) → b ≡ false → (if b then Some r else later) ≡ later
not_refused true r later e = cc
not_refused false r later e = refl

-- ---- failures

no_failure : (item : List ℕ) (fs : List Failure) → option_map (ill item) (first_failure fs) ≡ None → fs ≡ []
no_failure item [] e = refl
no_failure item (f ∷ fs) e = cc

pub no_refusal : (item : List ℕ) (fs : List Failure) → fs ≡ [] → option_map (ill item) (first_failure fs) ≡ None
no_refusal item fs e = ap (λ gs. option_map (ill item) (first_failure gs)) e

-- ---- items

protocol_refusal-none : (symbols : List Symbol) (item : List ℕ) (declared : Interface) (body : Protocol) → protocol_refusal symbols item declared body ≡ None → IsTypedProtocol symbols declared body
protocol_refusal-none symbols item declared body e =
    let first = passed (nat_lt (limit_number Channels) (channel_count body)) _ _ e in
    let second = passed (nat_lt greatest_printed_depth (printed_depth body)) _ _ first.1 in
    record {
      few = ltb-false (limit_number Channels) (channel_count body) first.0;
      shallow = ltb-false greatest_printed_depth (printed_depth body) second.0;
      typed = HasInterface-clean (signature_of symbols) declared body (no_failure item (interface_failures (signature_of symbols) declared body) second.1);
    }

protocol_refusal-typed : (symbols : List Symbol) (item : List ℕ) (declared : Interface) (body : Protocol) → IsTypedProtocol symbols declared body → protocol_refusal symbols item declared body ≡ None
protocol_refusal-typed symbols item declared body typed =
    not_refused (nat_lt (limit_number Channels) (channel_count body)) _ _ (le-ltb (limit_number Channels) (channel_count body) typed.few)
    ∙ not_refused (nat_lt greatest_printed_depth (printed_depth body)) _ _ (le-ltb greatest_printed_depth (printed_depth body) typed.shallow)
    ∙ no_refusal item (interface_failures (signature_of symbols) declared body) (interface-HasInterface (signature_of symbols) declared body typed.typed)

sides_refusal-none : (item : List ℕ) (left right : Option Network) (l r : Network) → left ≡ Some l → right ≡ Some r → sides_refusal item left right ≡ None → HaveSamePorts left right
sides_refusal-none item None right l r is is' e = cc
sides_refusal-none item (Some left) None l r is is' e = cc
sides_refusal-none item (Some left) (Some right) l r is is' e =
    SamePorts-sides left.interface right.interface (no_failure item (side_failures left.interface right.interface) e)

sides_refusal-same : (item : List ℕ) (left right : Option Network) → HaveSamePorts left right → sides_refusal item left right ≡ None
sides_refusal-same item None right same = absurd same
sides_refusal-same item (Some left) None same = absurd same
sides_refusal-same item (Some left) (Some right) same =
    no_refusal item (side_failures left.interface right.interface) (sides-SamePorts left.interface right.interface same.0 same.1)

item_refusal-none : (symbols : List Symbol) (entries : List Entry) (item : Entry) → HasSides entries item → item_refusal symbols entries item ≡ None → IsTypedItem symbols entries item
item_refusal-none symbols entries (symbol_entry n s) has e = tt
item_refusal-none symbols entries (protocol_entry name declared body) has e = protocol_refusal-none symbols name declared body e
item_refusal-none symbols entries (assumption_entry name left right) has e =
    sides_refusal-none name (network_named entries left) (network_named entries right) has.0.0 has.1.0 has.0.1 has.1.1 e
item_refusal-none symbols entries (theorem_entry name left right lefts rights) has e =
    sides_refusal-none name (network_named entries left) (network_named entries right) has.0.0 has.1.0 has.0.1 has.1.1 e

item_refusal-typed : (symbols : List Symbol) (entries : List Entry) (item : Entry) → IsTypedItem symbols entries item → item_refusal symbols entries item ≡ None
item_refusal-typed symbols entries (symbol_entry n s) typed = refl
item_refusal-typed symbols entries (protocol_entry name declared body) typed = protocol_refusal-typed symbols name declared body typed
item_refusal-typed symbols entries (assumption_entry name left right) typed =
    sides_refusal-same name (network_named entries left) (network_named entries right) typed
item_refusal-typed symbols entries (theorem_entry name left right lefts rights) typed =
    sides_refusal-same name (network_named entries left) (network_named entries right) typed

-- ---- documents

AreTyped-none : (d : Document) (index : ℕ) (items : List Entry) → HaveSides d.entries items → first_refusal (judged_by_type d) index items ≡ None → AreTyped d.symbols d.entries items
AreTyped-none d index [] has e = tt
AreTyped-none d index (item ∷ items) has e =
    let both = neither (item_refusal d.symbols d.entries item) (first_refusal (judged_by_type d) (suc index) items) e in
    (item_refusal-none d.symbols d.entries item has.0 both.0, AreTyped-none d (suc index) items has.1 both.1)

first_refusal-typed : (d : Document) (index : ℕ) (items : List Entry) → AreTyped d.symbols d.entries items → first_refusal (judged_by_type d) index items ≡ None
first_refusal-typed d index [] typed = refl
first_refusal-typed d index (item ∷ items) typed =
    no_first (item_refusal d.symbols d.entries item) (first_refusal (judged_by_type d) (suc index) items) (item_refusal-typed d.symbols d.entries item typed.0)
    ∙ first_refusal-typed d (suc index) items typed.1

pub IsTypedDocument-none : (d : Document) → HaveSides d.entries d.entries → type_refusal d ≡ None → IsTypedDocument d
IsTypedDocument-none d = AreTyped-none d 0 d.entries

pub type_refusal-typed : (d : Document) → IsTypedDocument d → type_refusal d ≡ None
type_refusal-typed d = first_refusal-typed d 0 d.entries

-- ---- what the tests of two sides say

pub sides_refusal-no_left : (item : List ℕ) (left right : Option Network) → left ≡ None → sides_refusal item left right ≡ None
sides_refusal-no_left item None right e = refl
sides_refusal-no_left item (Some left) right e = cc

pub sides_refusal-no_right : (item : List ℕ) (left right : Option Network) → right ≡ None → sides_refusal item left right ≡ None
sides_refusal-no_right item None right e = refl
sides_refusal-no_right item (Some left) None e = refl
sides_refusal-no_right item (Some left) (Some right) e = cc

pub sides_refusal-both : (item : List ℕ) (left right : Option Network) (l r : Network) → left ≡ Some l → right ≡ Some r → sides_refusal item left right ≡ option_map (ill item) (first_failure (side_failures l.interface r.interface))
sides_refusal-both item left right l r e f = ap₂ (λ x y. sides_refusal item x y) e f
