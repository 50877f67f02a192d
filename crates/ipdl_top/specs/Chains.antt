-- What the theorems of a document claim, their chains, and the text of all chains.
use Rattle.std.specs.Prelude.{ℕ, suc, ◌+◌, List, [], ◌∷◌, ◌++◌, take, Option, Some, None}
use Rattle.ipdl_chain.specs.Chains.{Chain, neighbour_count}
use Rattle.ipdl_chain.specs.ChainTexts.{accepted_line, assumptions_in, chain_text}
use Rattle.ipdl_forms.specs.Documents.{Document, Entry, symbol_entry, protocol_entry, assumption_entry, theorem_entry}
use Rattle.ipdl_script.specs.Known.{Proved}
use Rattle.ipdl_script.specs.Scripts.{Theorem, chain_of_scripts}
use Rattle.ipdl_script.specs.Steps.{Setting}
use Rattle.ipdl_sig.specs.declared.symbol.Symbol.{Symbol}
use Rattle.ipdl_term.specs.Steps.{Step}
use Rattle.ipdl_typing.specs.Signatures.{signature_of}
use Rattle.ipdl_forms.specs.Networks.{Network, network_named}

-- ---- claims

-- what a theorem claims: its names, what its steps are checked against, and its two protocols with their scripts
pub record Claim : Type 0 where
  pub name : List ℕ
  pub left : List ℕ
  pub right : List ℕ
  pub setting : Setting
  pub theorem : Theorem

-- the claim of two protocols that are there, at the interface of the left one, where these theorems were proved before
abbrev pub claim_between : List Symbol → List Entry → List Proved → (name left right : List ℕ) → (lefts rights : List Step) → (from to : Option Network) → Option Claim
claim_between symbols entries theorems name left right lefts rights (Some from) (Some to) =
    Some (record {
      name = name;
      left = left;
      right = right;
      setting = record { sig = signature_of symbols; entries = entries; theorems = theorems; interface = from.interface };
      theorem = record { left = from.body; right = to.body; lefts = lefts; rights = rights };
    })
claim_between symbols entries theorems name left right lefts rights (Some from) None = None
claim_between symbols entries theorems name left right lefts rights None to = None

-- the claim of an item of a document, none of what is no theorem
abbrev pub claim_of : List Symbol → List Entry → List Proved → Entry → Option Claim
claim_of symbols entries theorems (theorem_entry name left right lefts rights) =
    claim_between symbols entries theorems name left right lefts rights (network_named entries left) (network_named entries right)
claim_of symbols entries theorems (symbol_entry n s) = None
claim_of symbols entries theorems (protocol_entry name interface body) = None
claim_of symbols entries theorems (assumption_entry name left right) = None

-- ---- chains

-- the chain of its scripts
abbrev pub claim_chain : Claim → Chain
claim_chain claim = chain_of_scripts claim.setting claim.theorem

-- the theorem that is proved by it, if there is a claim
abbrev pub proved_by : Option Claim → List Proved
proved_by None = []
proved_by (Some claim) = record { name = claim.name; left = claim.left; chain = claim_chain claim } ∷ []

-- the theorems with that of an item
abbrev pub theorems_with : List Symbol → List Entry → List Proved → Entry → List Proved
theorems_with symbols entries theorems item = theorems ++ proved_by (claim_of symbols entries theorems item)

-- the theorems with those of some items, of which each may use those before it
abbrev pub theorems_after : List Symbol → List Entry → List Proved → List Entry → List Proved
theorems_after symbols entries theorems [] = theorems
theorems_after symbols entries theorems (item ∷ items) =
    theorems_after symbols entries (theorems_with symbols entries theorems item) items

-- the theorems before the item of an index
abbrev pub theorems_before : List Symbol → List Entry → (index : ℕ) → List Proved
theorems_before symbols entries index = theorems_after symbols entries [] (take index entries)

-- how many neighbours the chain has, none where there is no claim
abbrev pub claim_neighbours : Option Claim → ℕ
claim_neighbours None = 0
claim_neighbours (Some claim) = neighbour_count (claim_chain claim).links

abbrev pub item_neighbours : List Symbol → List Entry → List Proved → Entry → ℕ
item_neighbours symbols entries theorems item = claim_neighbours (claim_of symbols entries theorems item)

abbrev pub items_neighbours : List Symbol → List Entry → List Proved → List Entry → ℕ
items_neighbours symbols entries theorems [] = 0
items_neighbours symbols entries theorems (item ∷ items) =
    item_neighbours symbols entries theorems item
    + items_neighbours symbols entries (theorems_with symbols entries theorems item) items

-- ---- texts

-- the text of the chain, the names of the assumptions being those of the document; none where there is no claim
abbrev pub claim_text : List Symbol → (assumptions : List (List ℕ)) → Option Claim → List ℕ
claim_text symbols assumptions None = []
claim_text symbols assumptions (Some claim) =
    chain_text symbols assumptions claim.name claim.left claim.right (claim_chain claim)

abbrev pub item_text : List Symbol → List Entry → List Proved → Entry → List ℕ
item_text symbols entries theorems item =
    claim_text symbols (assumptions_in entries) (claim_of symbols entries theorems item)

abbrev pub items_text : List Symbol → List Entry → List Proved → List Entry → List ℕ
items_text symbols entries theorems [] = []
items_text symbols entries theorems (item ∷ items) =
    item_text symbols entries theorems item
    ++ items_text symbols entries (theorems_with symbols entries theorems item) items

abbrev pub theorem_count : List Entry → ℕ
theorem_count [] = 0
theorem_count (symbol_entry n s ∷ entries) = theorem_count entries
theorem_count (protocol_entry name interface body ∷ entries) = theorem_count entries
theorem_count (assumption_entry name left right ∷ entries) = theorem_count entries
theorem_count (theorem_entry name left right lefts rights ∷ entries) = suc (theorem_count entries)

-- all chains in order
abbrev pub chains_text : Document → List ℕ
chains_text d = items_text d.symbols d.entries [] d.entries

-- all chains, and the last line
unfoldable pub proved_text : Document → List ℕ
proved_text d =
    chains_text d ++ accepted_line (theorem_count d.entries) (items_neighbours d.symbols d.entries [] d.entries)
