-- Chains as plain data: terms, each of which comes from the one before by a mark. The counts of the marks, and what a
-- chain is from its last term back to its first one.
use Rattle.std.specs.Prelude.{ℕ, ◌+◌, List, [], ◌∷◌, ◌++◌, length, map, bytes_eq, if◌then◌else◌}
use Rattle.ipdl_embed.specs.Pairs.{Pairs}
use Rattle.ipdl_term.specs.Steps.{Direction, lr, rl}
use Rattle.ipdl_term.specs.Terms.{Protocol, Context}

-- by what a term comes from the one before it, its upper neighbour
pub data Mark : Type 0 where
  -- the rule of this word at the place. `lr` says that the upper neighbour is the rule's left side
  by_rule : Direction → (word place : List ℕ) → Mark
  -- the theorem of this name at the place, whose channels have these names there. `lr` says that the upper neighbour has
  -- the theorem's left protocol
  by_theorem : Direction → (name place : List ℕ) → Pairs → Mark
  -- the assumption of this name, likewise, and what is around the place
  by_assumption : Direction → (name place : List ℕ) → Pairs → Context → Mark

-- a further term of a chain, with its mark
pub record Link : Type 0 where
  pub mark : Mark
  pub term : Protocol

-- the first term, and the further ones in order. So there is one mark fewer than terms
pub record Chain : Type 0 where
  pub first : Protocol
  pub links : List Link

-- ---- terms

-- the last one of a term and those that follow it
abbrev pub last_of : Protocol → List Link → Protocol
last_of term [] = term
last_of term (link ∷ links) = last_of link.term links

-- all terms in order
abbrev pub terms_of : Chain → List Protocol
terms_of chain = chain.first ∷ map (λ (link : Link). link.term) chain.links

-- each two neighbours stand in the relation of their mark, from the first term on
abbrev pub EachTwo : (Mark → (upper lower : Protocol) → Type 0) → (first : Protocol) → List Link → Type 0
EachTwo Marks first [] = Unit {0}
EachTwo Marks first (link ∷ links) = Marks link.mark first link.term × EachTwo Marks link.term links

-- ---- counts

-- each further term has an upper neighbour
abbrev pub neighbour_count : List Link → ℕ
neighbour_count links = length links

-- 1 for a mark that is no assumption, and else 0
abbrev pub exact_in : Mark → ℕ
exact_in (by_rule direction word place) = 1
exact_in (by_theorem direction name place pairs) = 1
exact_in (by_assumption direction name place pairs C) = 0

-- 1 for a mark that is an assumption, and else 0
abbrev pub assumed_in : Mark → ℕ
assumed_in (by_rule direction word place) = 0
assumed_in (by_theorem direction name place pairs) = 0
assumed_in (by_assumption direction name place pairs C) = 1

-- 1 for a mark that is this assumption, and else 0
abbrev pub count_in : (assumption : List ℕ) → Mark → ℕ
count_in assumption (by_rule direction word place) = 0
count_in assumption (by_theorem direction name place pairs) = 0
count_in assumption (by_assumption direction name place pairs C) = if bytes_eq name assumption then 1 else 0

-- the marks that are no assumption
abbrev pub exact_count : List Link → ℕ
exact_count [] = 0
exact_count (link ∷ links) = exact_in link.mark + exact_count links

-- the marks that are one
abbrev pub assumed_count : List Link → ℕ
assumed_count [] = 0
assumed_count (link ∷ links) = assumed_in link.mark + assumed_count links

-- the marks that are this one
abbrev pub count_of : (assumption : List ℕ) → List Link → ℕ
count_of assumption [] = 0
count_of assumption (link ∷ links) = count_in assumption link.mark + count_of assumption links

-- ---- from the last term back to the first one

abbrev pub turned_direction : Direction → Direction
turned_direction lr = rl
turned_direction rl = lr

abbrev pub turned_mark : Mark → Mark
turned_mark (by_rule direction word place) = by_rule (turned_direction direction) word place
turned_mark (by_theorem direction name place pairs) = by_theorem (turned_direction direction) name place pairs
turned_mark (by_assumption direction name place pairs C) = by_assumption (turned_direction direction) name place pairs C

-- the links that lead from the last one of a term and those that follow it back to the term
abbrev pub turned_links : Protocol → List Link → List Link
turned_links term [] = []
turned_links term (link ∷ links) =
    turned_links link.term links ++ record { mark = turned_mark link.mark; term = term } ∷ []

-- the chain from its last term back to its first one
abbrev pub turned : Chain → Chain
turned chain = record { first = last_of chain.first chain.links; links = turned_links chain.first chain.links }
