-- Uses: the chain that an assumption or a theorem gives where it is used.
use Rattle.std.specs.Prelude.{ℕ, List, [], ◌∷◌, ◌++◌, if◌then◌else◌}
use Rattle.ipdl_chain.specs.Chains.{Mark, by_rule, by_theorem, by_assumption, Link, Chain, turned}
use Rattle.ipdl_embed.specs.Following.{followed, hidden_on_way}
use Rattle.ipdl_embed.specs.Pairs.{Pairs}
use Rattle.ipdl_term.specs.Contexts.{plugged, nested}
use Rattle.ipdl_term.specs.Renaming.{renamed, renaming_of, renamed_context, hidden_around}
use Rattle.ipdl_term.specs.Steps.{Direction, lr, rl}
use Rattle.ipdl_term.specs.Terms.{Protocol, Context}
use Rattle.ipdl_uses.specs.Lemmas.{right_of, is_exact}

-- a use of what has this name: the place, what is around it, and a pair for each channel of the interface
pub record Use : Type 0 where
  pub name : List ℕ
  pub place : List ℕ
  pub around : Context
  pub pairs : Pairs

-- a protocol of the interface where it is used: in the names there, with what is around it
abbrev pub instance_of : Use → Protocol → Protocol
instance_of u p = plugged u.around (renamed (renaming_of u.pairs) p)

-- A mark where it is used. The place comes before its own, its context stands in the one around the use, and the new names
-- of its pairs are renamed but for those that a `new` hides above its own place.
abbrev pub instance_mark : Use → (upper : Protocol) → Mark → Mark
instance_mark u upper (by_rule direction word place) = by_rule direction word (u.place ++ place)
instance_mark u upper (by_theorem direction name place pairs) =
    by_theorem direction name (u.place ++ place) (followed (hidden_on_way upper place) u.pairs pairs)
instance_mark u upper (by_assumption direction name place pairs C) =
    by_assumption direction name (u.place ++ place) (followed (hidden_around C) u.pairs pairs)
    (nested u.around (renamed_context (renaming_of u.pairs) C))

-- the further terms where they are used, after the upper one
abbrev pub instance_links : Use → (upper : Protocol) → List Link → List Link
instance_links u upper [] = []
instance_links u upper (link ∷ links) =
    record { mark = instance_mark u upper link.mark; term = instance_of u link.term } ∷ instance_links u link.term links

-- all neighbours of a chain
abbrev pub all_neighbours : Use → Chain → Chain
all_neighbours u chain =
    record { first = instance_of u chain.first; links = instance_links u chain.first chain.links }

-- its two ends as neighbours
abbrev pub one_neighbour : Use → Chain → Chain
one_neighbour u chain =
    record {
      first = instance_of u chain.first;
      links = record { mark = by_theorem lr u.name u.place u.pairs; term = instance_of u (right_of chain) } ∷ [];
    }

-- what is used without an assumption gives one neighbour, and what is not so gives all of its own
abbrev pub given_neighbours : Use → Chain → Chain
given_neighbours u chain = if is_exact chain then one_neighbour u chain else all_neighbours u chain

-- from left to right, or back
abbrev pub used : Direction → Use → Chain → Chain
used lr u chain = given_neighbours u chain
used rl u chain = turned (given_neighbours u chain)

-- the side from which it is used, and the one to which it leads
abbrev pub from_side : Direction → Chain → Protocol
from_side lr chain = chain.first
from_side rl chain = right_of chain

abbrev pub to_side : Direction → Chain → Protocol
to_side lr chain = right_of chain
to_side rl chain = chain.first
