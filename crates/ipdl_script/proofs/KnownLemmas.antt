-- What a name stands for: what is found among the items and the chains is the lemma of the name, and is kept.
use Rattle.std.proofs.Common.{◌≡◌, ℕ, Bool, true, false, List, [], ◌∷◌, map, Option, Some, None, refl, sym, ap, ap₂, ◌∙◌, subst}
use Rattle.std.specs.Option.{IfSome}
use Rattle.std.specs.Prelude.{All, bytes_eq, option_map, if◌then◌else◌}
use Rattle.std.proofs.lemmas.List.Elements.{All-head, All-tail}
use Rattle.ipdl_chain.specs.Views.{chain_of}
use Rattle.ipdl_chain.specs.declared.chain.Chain.{Chain as HeldChain}
use Rattle.ipdl_forms.proofs.Networks.{network_named-found}
use Rattle.ipdl_forms.specs.Documents.{Entry, document_of, entry_of}
use Rattle.ipdl_forms.specs.Lookups.{protocol_named}
use Rattle.ipdl_forms.specs.Networks.{network_named, network_of}
use Rattle.ipdl_forms.specs.declared.document.AssumeItem.{AssumeItem}
use Rattle.ipdl_forms.specs.declared.document.Document.{Document}
use Rattle.ipdl_forms.specs.declared.document.Item.{Item}
use Rattle.ipdl_forms.specs.declared.document.Item.TheVariants as I
use Rattle.ipdl_forms.specs.declared.document.ProtocolItem.{ProtocolItem}
use Rattle.ipdl_script.specs.Known.{assumed_lemma, proved_lemma, sides_between, sides_among, sides_named, theorem_named}
use Rattle.ipdl_script.specs.NamedItems.{assumption_named, chain_named}
use Rattle.ipdl_script.specs.Views.{proved_of}
use Rattle.ipdl_sig.specs.declared.symbol.Symbol.{Symbol}
use Rattle.ipdl_uses.specs.Lemmas.{Lemma}
use Rattle.ipdl_uses.specs.Meanings.{Sides}

-- ---- the protocols of a document

module _ (d : Document) (name : List ℕ) where
  -- the network of a protocol that was found
  pub network_there : (found : Option ProtocolItem) → found ≡ protocol_named d.items name → network_named (document_of d).entries name ≡ option_map network_of found
  network_there found e = network_named-found d.sig d.items name found e

-- ---- assumptions

-- the sides of an assumption, where there is one
abbrev pub sides_of : List Entry → Option AssumeItem → Option Sides
sides_of entries None = None
sides_of entries (Some a) = sides_between (network_named entries a.left) (network_named entries a.right)

sides_if : (entries : List Entry) (b : Bool) (a : AssumeItem) (rest : Option Sides) (found : Option AssumeItem) → rest ≡ sides_of entries found →
    (if b then sides_between (network_named entries a.left) (network_named entries a.right) else rest) ≡ sides_of entries (if b then Some a else found)
sides_if entries true a rest found e = refl
sides_if entries false a rest found e = e

sides_among-found : (entries : List Entry) (symbols : List Symbol) (items : List Item) (name : List ℕ) → sides_among entries (map (entry_of symbols) items) name ≡ sides_of entries (assumption_named items name)
sides_among-found entries symbols [] name = refl
sides_among-found entries symbols (I.Symbol n ∷ items) name = sides_among-found entries symbols items name
sides_among-found entries symbols (I.Protocol p ∷ items) name = sides_among-found entries symbols items name
sides_among-found entries symbols (I.Assumption a ∷ items) name =
    sides_if entries (bytes_eq a.name name) a (sides_among entries (map (entry_of symbols) items) name) (assumption_named items name) (sides_among-found entries symbols items name)
sides_among-found entries symbols (I.Theorem t ∷ items) name = sides_among-found entries symbols items name

-- those of the assumption of the name
pub sides_there : (d : Document) (name : List ℕ) (found : Option AssumeItem) → found ≡ assumption_named d.items name → sides_named (document_of d).entries name ≡ sides_of (document_of d).entries found
sides_there d name found e = sides_among-found (document_of d).entries d.sig d.items name ∙ ap (sides_of (document_of d).entries) (sym e)

-- the lemma of an assumption between two protocols that were looked for
pub lemma_between : (d : Document) (name left right : List ℕ) (from to : Option ProtocolItem) → from ≡ protocol_named d.items left → to ≡ protocol_named d.items right →
    option_map (assumed_lemma name) (sides_between (option_map network_of from) (option_map network_of to)) ≡
    option_map (assumed_lemma name) (sides_between (network_named (document_of d).entries left) (network_named (document_of d).entries right))
lemma_between d name left right from to f t =
    ap₂ (λ a b. option_map (assumed_lemma name) (sides_between a b)) (sym (network_there d left from f)) (sym (network_there d right to t))

-- there is none where the left one is not there
pub none_between : (d : Document) (name left right : List ℕ) → None ≡ protocol_named d.items left →
    None ≡ option_map (assumed_lemma name) (sides_between (network_named (document_of d).entries left) (network_named (document_of d).entries right))
none_between d name left right f =
    ap (λ a. option_map (assumed_lemma name) (sides_between a (network_named (document_of d).entries right))) (sym (network_there d left None f))

-- the lemma of the assumption of the name
pub assumed_there : (d : Document) (name : List ℕ) (found : Option AssumeItem) → found ≡ assumption_named d.items name →
    option_map (assumed_lemma name) (sides_of (document_of d).entries found) ≡ option_map (assumed_lemma name) (sides_named (document_of d).entries name)
assumed_there d name found e = ap (option_map (assumed_lemma name)) (sym (sides_there d name found e))

-- ---- theorems

-- the lemma of a theorem, where there is one
abbrev pub proved_of_chain : List Entry → Option HeldChain → Option Lemma
proved_of_chain entries None = None
proved_of_chain entries (Some chain) = option_map (proved_lemma (chain_of chain)) (network_named entries chain.left)

proved_if : (entries : List Entry) (b : Bool) (chain : HeldChain) (rest : Option Lemma) (found : Option HeldChain) → rest ≡ proved_of_chain entries found →
    (if b then option_map (proved_lemma (chain_of chain)) (network_named entries chain.left) else rest) ≡ proved_of_chain entries (if b then Some chain else found)
proved_if entries true chain rest found e = refl
proved_if entries false chain rest found e = e

theorem_named-found : (entries : List Entry) (chains : List HeldChain) (name : List ℕ) → theorem_named entries (map proved_of chains) name ≡ proved_of_chain entries (chain_named chains name)
theorem_named-found entries [] name = refl
theorem_named-found entries (chain ∷ chains) name =
    proved_if entries (bytes_eq chain.name name) chain (theorem_named entries (map proved_of chains) name) (chain_named chains name) (theorem_named-found entries chains name)

-- that of the name
pub theorem_there : (entries : List Entry) (chains : List HeldChain) (name : List ℕ) (found : Option HeldChain) → found ≡ chain_named chains name →
    proved_of_chain entries found ≡ theorem_named entries (map proved_of chains) name
theorem_there entries chains name found e = ap (proved_of_chain entries) e ∙ sym (theorem_named-found entries chains name)

-- with the protocol that was looked for
pub proved_there : (d : Document) (chain : HeldChain) (left : Option ProtocolItem) → left ≡ protocol_named d.items chain.left →
    option_map (proved_lemma (chain_of chain)) (option_map network_of left) ≡ proved_of_chain (document_of d).entries (Some chain)
proved_there d chain left e = ap (option_map (proved_lemma (chain_of chain))) (sym (network_there d chain.left left e))

-- what holds of each chain holds of the one of the name
if_found : (P : HeldChain → Type 0) (b : Bool) (chain : HeldChain) (found : Option HeldChain) → P chain → IfSome found P → IfSome (if b then Some chain else found) P
if_found P true chain found h k = h
if_found P false chain found h k = k

holds_of_named : (P : HeldChain → Type 0) (chains : List HeldChain) (name : List ℕ) → All P chains → IfSome (chain_named chains name) P
holds_of_named P [] name h = tt
holds_of_named P (chain ∷ chains) name h =
    if_found P (bytes_eq chain.name name) chain (chain_named chains name) (All-head P chain chains h) (holds_of_named P chains name (All-tail P chain chains h))

pub holds_of_found : (P : HeldChain → Type 0) (chains : List HeldChain) (name : List ℕ) (chain : HeldChain) → Some chain ≡ chain_named chains name → All P chains → P chain
holds_of_found P chains name chain e h = subst (λ found. IfSome found P) (sym e) (holds_of_named P chains name h)
