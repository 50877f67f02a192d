-- What is true of the theorems of a document that are proved.
use Rattle.std.specs.Prelude.{◌≡◌, ℕ, true, List, Option, Some, None, slice_get}
use Rattle.ipdl_chain.specs.Chains.{EachTwo}
use Rattle.ipdl_forms.specs.Documents.{Document, Entry, symbol_entry, protocol_entry, assumption_entry, theorem_entry}
use Rattle.ipdl_script.specs.Known.{Proved}
use Rattle.ipdl_script.specs.Steps.{assumed_in}
use Rattle.ipdl_sig.specs.declared.symbol.Symbol.{Symbol}
use Rattle.ipdl_uses.specs.Lemmas.{is_exact}
use Rattle.ipdl_uses.specs.Meanings.{AreEqualAt, AreTrue, MeansMark}
use Rattle.ipdl_top.specs.Chains.{Claim, claim_of, claim_chain, theorems_before}

-- Each two neighbours of its chain are what their mark says, at the interface of its left protocol: equal; or, by an
-- assumption, the printed context around the two sides of it in the printed names and direction.
abbrev pub HasMeantNeighbours : Claim → Type 0
HasMeantNeighbours claim =
    EachTwo (MeansMark claim.setting.sig claim.setting.interface (assumed_in claim.setting)) claim.theorem.left (claim_chain claim).links

-- its two protocols are equal there
abbrev pub HasEqualSides : Claim → Type 0
HasEqualSides claim = AreEqualAt claim.setting.sig claim.setting.interface claim.theorem.left claim.theorem.right

-- where no mark is an assumption
abbrev pub HasEqualSidesIfExact : Claim → Type 0
HasEqualSidesIfExact claim = is_exact (claim_chain claim) ≡ true → HasEqualSides claim

-- where the two sides of each assumption that its chain counts are equal
abbrev pub HasEqualSidesIfTrue : Claim → Type 0
HasEqualSidesIfTrue claim =
    AreTrue claim.setting.sig (assumed_in claim.setting) (claim_chain claim).links → HasEqualSides claim

-- there is a claim, and this is so of it
abbrev pub IsSoOfClaim : (Claim → Type 0) → Option Claim → Type 0
IsSoOfClaim holds None = ⊥
IsSoOfClaim holds (Some claim) = holds claim

-- this is so of what a theorem claims, before which these were proved
abbrev pub IsSoOfItem : (Claim → Type 0) → List Symbol → List Entry → List Proved → Entry → Type 0
IsSoOfItem holds symbols entries theorems (theorem_entry name left right lefts rights) =
    IsSoOfClaim holds (claim_of symbols entries theorems (theorem_entry name left right lefts rights))
IsSoOfItem holds symbols entries theorems (symbol_entry n s) = Unit {0}
IsSoOfItem holds symbols entries theorems (protocol_entry name interface body) = Unit {0}
IsSoOfItem holds symbols entries theorems (assumption_entry name left right) = Unit {0}

-- this is so of what each theorem of the document claims
abbrev pub IsSoOfTheorems : (Claim → Type 0) → Document → Type 0
IsSoOfTheorems holds d =
    (index : ℕ) (item : Entry) → slice_get d.entries index ≡ Some item →
    IsSoOfItem holds d.symbols d.entries (theorems_before d.symbols d.entries index) item
