-- The protocols of a document that is spelled within the limits and typed: each is within the limits and typed at its
-- interface, and so are both protocols of a theorem at the left one's.
use Rattle.std.proofs.Common.{◌≡◌, ℕ, Bool, true, false, List, [], ◌∷◌, ◌++◌, Option, Some, None, sym, subst}
use Rattle.std.proofs.lemmas.Option.{same_Some}
use Rattle.std.specs.List.{AllByRecursion}
use Rattle.std.specs.Prelude.{IfSome, bytes_eq, if◌then◌else◌}
use Rattle.ipdl_forms.specs.Documents.{Document, Entry, symbol_entry, protocol_entry, assumption_entry, theorem_entry}
use Rattle.ipdl_forms.specs.Items.{SpellsDocument, AreEntries, nothing_earlier, earlier_with}
use Rattle.ipdl_forms.specs.Limits.{IsEntryWithin, IsWithinLimits}
use Rattle.ipdl_forms.specs.Lists.{operand}
use Rattle.ipdl_forms.specs.Steps.{Earlier}
use Rattle.ipdl_script.specs.Steps.{KeepsLimits}
use Rattle.ipdl_sig.specs.declared.symbol.Symbol.{Symbol}
use Rattle.ipdl_term.specs.Typing.{HasInterface}
use Rattle.ipdl_tree.specs.Trees.{Located, Forest, no_trees, tree}
use Rattle.ipdl_typing.proofs.SameInterfaces.{HasInterface-same}
use Rattle.ipdl_typing.specs.Interfaces.{HasEachNameOnce}
use Rattle.ipdl_typing.specs.Signatures.{signature_of}
use Rattle.ipdl_top.proofs.PortNames.{HasEachNameOnce-spelled}
use Rattle.ipdl_forms.specs.Networks.{Network, network_named}
use Rattle.ipdl_commands.specs.Lookups.{IsTypedNetwork}
use Rattle.ipdl_top.specs.Typed.{AreTyped, IsTypedDocument, HaveSamePorts}

-- the body is within the limits and has the interface, which has no name twice
pub record IsFitNetwork (symbols : List Symbol) (n : Network) : Type 0 where
  pub limits : KeepsLimits n.body
  pub typed : HasInterface (signature_of symbols) n.interface n.body
  pub once : HasEachNameOnce (n.interface.inputs ++ n.interface.outputs)

abbrev pub AreFitNetworks : List Symbol → List Entry → Type 0
AreFitNetworks symbols [] = Unit {0}
AreFitNetworks symbols (symbol_entry n s ∷ entries) = AreFitNetworks symbols entries
AreFitNetworks symbols (protocol_entry name interface body ∷ entries) =
    IsFitNetwork symbols (record { interface = interface; body = body }) × AreFitNetworks symbols entries
AreFitNetworks symbols (assumption_entry name left right ∷ entries) = AreFitNetworks symbols entries
AreFitNetworks symbols (theorem_entry name left right lefts rights ∷ entries) = AreFitNetworks symbols entries

-- ---- the protocol of a name

one_of : (symbols : List Symbol) (b : Bool) (first : Network) (later : Option Network) → IsFitNetwork symbols first → ((n : Network) → later ≡ Some n → IsFitNetwork symbols n) → (n : Network) → (if b then Some first else later) ≡ Some n → IsFitNetwork symbols n
one_of symbols true first later fits more n e = subst (IsFitNetwork symbols) (same_Some first n e) fits
one_of symbols false first later fits more n e = more n e

pub IsFitNetwork-named : (symbols : List Symbol) (entries : List Entry) (name : List ℕ) → AreFitNetworks symbols entries → (n : Network) → network_named entries name ≡ Some n → IsFitNetwork symbols n
IsFitNetwork-named symbols [] name fits n e = cc
IsFitNetwork-named symbols (symbol_entry k s ∷ entries) name fits n e = IsFitNetwork-named symbols entries name fits n e
IsFitNetwork-named symbols (protocol_entry other interface body ∷ entries) name fits n e =
    one_of symbols (bytes_eq other name) (record { interface = interface; body = body }) (network_named entries name) fits.0
    (IsFitNetwork-named symbols entries name fits.1) n e
IsFitNetwork-named symbols (assumption_entry other left right ∷ entries) name fits n e = IsFitNetwork-named symbols entries name fits n e
IsFitNetwork-named symbols (theorem_entry other left right lefts rights ∷ entries) name fits n e = IsFitNetwork-named symbols entries name fits n e

-- so it may be run
pub IsTypedNetwork-named : (symbols : List Symbol) (entries : List Entry) (name : List ℕ) → AreFitNetworks symbols entries → (found : Option Network) → network_named entries name ≡ found → IfSome found (IsTypedNetwork symbols)
IsTypedNetwork-named symbols entries name fits None e = tt
IsTypedNetwork-named symbols entries name fits (Some n) e =
    let fit = IsFitNetwork-named symbols entries name fits n e in record { typed = fit.typed; small = fit.limits.nodes }

-- ---- documents

AreFitNetworks-entries : (symbols : List Symbol) (entries : List Entry) (earlier : Earlier) (items : List Entry) (ts : Forest) → AreEntries earlier items ts → AllByRecursion IsEntryWithin items → AreTyped symbols entries items → AreFitNetworks symbols items
AreFitNetworks-entries symbols entries earlier [] ts spelled within typed = tt
AreFitNetworks-entries symbols entries earlier (item ∷ items) no_trees spelled within typed = absurd spelled
AreFitNetworks-entries symbols entries earlier (symbol_entry n s ∷ items) (tree t ts) spelled within typed =
    AreFitNetworks-entries symbols entries (earlier_with (symbol_entry n s) earlier) items ts spelled.1 within.1 typed.1
AreFitNetworks-entries symbols entries earlier (protocol_entry name interface body ∷ items) (tree t ts) spelled within typed = (
  record {
    limits = record { nodes = within.0; channels = typed.0.few; depth = typed.0.shallow };
    typed = typed.0.typed;
    once = HasEachNameOnce-spelled interface (operand 1 t) (operand 2 t) spelled.0.2;
  },
  AreFitNetworks-entries symbols entries (earlier_with (protocol_entry name interface body) earlier) items ts spelled.1 within.1 typed.1,
)
AreFitNetworks-entries symbols entries earlier (assumption_entry name left right ∷ items) (tree t ts) spelled within typed =
    AreFitNetworks-entries symbols entries (earlier_with (assumption_entry name left right) earlier) items ts spelled.1 within.1 typed.1
AreFitNetworks-entries symbols entries earlier (theorem_entry name left right lefts rights ∷ items) (tree t ts) spelled within typed =
    AreFitNetworks-entries symbols entries (earlier_with (theorem_entry name left right lefts rights) earlier) items ts spelled.1 within.1 typed.1

pub AreFitNetworks-spelled : (d : Document) (t : Located) → SpellsDocument d t → IsWithinLimits d → IsTypedDocument d → AreFitNetworks d.symbols d.entries
AreFitNetworks-spelled d t spelled within typed =
    AreFitNetworks-entries d.symbols d.entries nothing_earlier d.entries _ spelled.3 within.1 typed

-- ---- the two protocols of a theorem

-- the right protocol also has the interface of the left one
pub HasInterface-across : (symbols : List Symbol) (left right : Network) → IsFitNetwork symbols left → IsFitNetwork symbols right → HaveSamePorts (Some left) (Some right) → HasInterface (signature_of symbols) left.interface right.body
HasInterface-across symbols left right fits fits' same =
    HasInterface-same (signature_of symbols) right.interface left.interface right.body fits.once
    (λ p. sym (same.0 p)) (λ p. sym (same.1 p)) fits'.typed
