-- What the steps of a theorem may use: the assumptions of the document, and the theorems before it.
use Rattle.std.specs.Option.{option_or}
use Rattle.std.specs.Prelude.{ℕ, List, [], ◌∷◌, bytes_eq, option_map, Option, Some, None, if◌then◌else◌}
use Rattle.ipdl_chain.specs.Chains.{Chain}
use Rattle.ipdl_forms.specs.Documents.{Entry, symbol_entry, protocol_entry, assumption_entry, theorem_entry}
use Rattle.ipdl_forms.specs.Networks.{Network, network_named}
use Rattle.ipdl_uses.specs.Lemmas.{Lemma, assumed_chain}
use Rattle.ipdl_uses.specs.Meanings.{Sides}

-- a theorem that was proved: its name, that of its left protocol, and its chain
pub record Proved : Type 0 where
  pub name : List ℕ
  pub left : List ℕ
  pub chain : Chain

-- two protocols that are there, at the interface of the left one
abbrev pub sides_between : (from to : Option Network) → Option Sides
sides_between (Some from) (Some to) =
    Some (record { interface = from.interface; left = from.body; right = to.body })
sides_between (Some from) None = None
sides_between None to = None

-- the sides of the assumption of the name, among some items of a document
abbrev pub sides_among : (document : List Entry) → List Entry → (name : List ℕ) → Option Sides
sides_among document [] name = None
sides_among document (symbol_entry n s ∷ entries) name = sides_among document entries name
sides_among document (protocol_entry other interface body ∷ entries) name = sides_among document entries name
sides_among document (assumption_entry other left right ∷ entries) name =
    if bytes_eq other name then sides_between (network_named document left) (network_named document right)
    else sides_among document entries name
sides_among document (theorem_entry other left right lefts rights ∷ entries) name = sides_among document entries name

-- among all of them
abbrev pub sides_named : List Entry → (name : List ℕ) → Option Sides
sides_named entries name = sides_among entries entries name

abbrev pub assumed_lemma : (name : List ℕ) → Sides → Lemma
assumed_lemma name sides =
    record { interface = sides.interface; chain = assumed_chain name sides.interface sides.left sides.right }

abbrev pub proved_lemma : Chain → Network → Lemma
proved_lemma chain left = record { interface = left.interface; chain = chain }

-- the theorem of the name, with the interface of its left protocol
abbrev pub theorem_named : List Entry → List Proved → (name : List ℕ) → Option Lemma
theorem_named entries [] name = None
theorem_named entries (theorem ∷ theorems) name =
    if bytes_eq theorem.name name then option_map (proved_lemma theorem.chain) (network_named entries theorem.left)
    else theorem_named entries theorems name

-- the assumption or the theorem of the name; no two items have one name
abbrev pub lemma_among : List Entry → List Proved → (name : List ℕ) → Option Lemma
lemma_among entries theorems name =
    option_or (option_map (assumed_lemma name) (sides_named entries name)) (theorem_named entries theorems name)
