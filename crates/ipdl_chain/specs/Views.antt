-- What the chains of the program stand for.
use Rattle.std.specs.Prelude.{◌≡◌, ℕ, suc, List, [], ◌∷◌, length, All}
use Rattle.ipdl_term.specs.declared.protocol.Proto.{Proto}
use Rattle.ipdl_term.specs.Steps.{direction_of}
use Rattle.ipdl_term.specs.Terms.{Protocol, nil}
use Rattle.ipdl_term.specs.Views.{protocol_of, context_of}
use Rattle.ipdl_term.specs.Within.{IsProtocolWithin, IsContextWithin}
use Rattle.ipdl_chain.specs.Chains.{Mark, by_rule, by_theorem, by_assumption, Link, Chain}
use Rattle.ipdl_chain.specs.declared.chain.Chain.{Chain as Held}
use Rattle.ipdl_chain.specs.declared.chain.Mark.{Mark as HeldMark}
use Rattle.ipdl_chain.specs.declared.chain.Mark.TheVariants.{ByRule, ByTheorem, ByAssumption}

abbrev pub mark_of : HeldMark → Mark
mark_of (ByRule dir word path) = by_rule (direction_of dir) word path
mark_of (ByTheorem dir name path renaming) = by_theorem (direction_of dir) name path renaming
mark_of (ByAssumption dir name path renaming ctx) = by_assumption (direction_of dir) name path renaming (context_of ctx)

-- the first of some terms, or `(nil)` where there is none
abbrev pub first_of : List Proto → Protocol
first_of [] = nil
first_of (term ∷ terms) = protocol_of term

-- the terms after the first one
abbrev pub others_of : List Proto → List Proto
others_of [] = []
others_of (term ∷ terms) = terms

-- each mark, with the term that comes by it
abbrev pub links_of : List HeldMark → List Proto → List Link
links_of [] terms = []
links_of (mark ∷ marks) terms = record { mark = mark_of mark; term = first_of terms } ∷ links_of marks (others_of terms)

abbrev pub chain_of : Held → Chain
chain_of chain = record { first = first_of chain.terms; links = links_of chain.marks (others_of chain.terms) }

-- ---- what a chain is to be, if it is to be printed

abbrev pub HasOneTermMore : Held → Type 0
HasOneTermMore chain = length chain.terms ≡ suc (length chain.marks)

-- the context of a mark has symbols among the first so many, and each of its variables a binder
abbrev pub IsMarkWithin : (symbols : ℕ) → HeldMark → Type 0
IsMarkWithin symbols (ByRule dir word path) = Unit {0}
IsMarkWithin symbols (ByTheorem dir name path renaming) = Unit {0}
IsMarkWithin symbols (ByAssumption dir name path renaming ctx) = IsContextWithin symbols (context_of ctx)

-- so has each term, and each context
pub record IsWithin (symbols : ℕ) (chain : Held) : Type 0 where
  pub terms : All (λ term. IsProtocolWithin symbols (protocol_of term)) chain.terms
  pub marks : All (λ mark. IsMarkWithin symbols mark) chain.marks
