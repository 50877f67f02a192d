-- What a step may use: an assumption, or a theorem that was proved before.
use Rattle.std.specs.Prelude.{ℕ, nat_eq, Bool, List, [], ◌∷◌, ◌++◌}
use Rattle.ipdl_chain.specs.Chains.{by_assumption, Chain, last_of, terms_of, assumed_count}
use Rattle.ipdl_embed.specs.Completing.{completed}
use Rattle.ipdl_term.specs.Renaming.{hidden_channels}
use Rattle.ipdl_term.specs.Steps.{lr}
use Rattle.ipdl_term.specs.Terms.{Channel, Protocol, hole}
use Rattle.ipdl_term.specs.declared.interface.Interface.{Interface}

-- an interface, and a chain between two protocols of it
pub record Lemma : Type 0 where
  pub interface : Interface
  pub chain : Chain

-- The chain of an assumption has the two sides as its one pair of neighbours: each channel has its own name, and nothing is
-- around.
abbrev pub assumed_chain : (name : List ℕ) → Interface → (left right : Protocol) → Chain
assumed_chain name i left right =
    record { first = left; links = record { mark = by_assumption lr name [] (completed i []) hole; term = right } ∷ [] }

abbrev pub left_of : Chain → Protocol
left_of chain = chain.first

abbrev pub right_of : Chain → Protocol
right_of chain = last_of chain.first chain.links

-- whether no mark is an assumption
abbrev pub is_exact : Chain → Bool
is_exact chain = nat_eq (assumed_count chain.links) 0

-- the channels that are hidden in some terms, by whatever `new`
abbrev pub hidden_in_terms : List Protocol → List Channel
hidden_in_terms [] = []
hidden_in_terms (term ∷ terms) = hidden_channels term ++ hidden_in_terms terms

-- in those of a chain
abbrev pub hidden_in_chain : Chain → List Channel
hidden_in_chain chain = hidden_in_terms (terms_of chain)
