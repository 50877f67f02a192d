-- The neighbours that a use gives begin at the side from which it is used, where that stands.
use Rattle.std.proofs.Common.{◌≡◌, Bool, true, false, if◌then◌else◌, List, [], ◌∷◌, refl}
use Rattle.ipdl_chain.specs.Chains.{Link, Chain, last_of}
use Rattle.ipdl_term.specs.Steps.{Direction, lr, rl}
use Rattle.ipdl_term.specs.Terms.{Protocol}
use Rattle.ipdl_uses.specs.Lemmas.{right_of, is_exact}
use Rattle.ipdl_uses.specs.Uses.{Use, instance_of, instance_links, all_neighbours, one_neighbour, given_neighbours, used, from_side}

last_of-instance : (u : Use) (upper : Protocol) (links : List Link) → last_of (instance_of u upper) (instance_links u upper links) ≡ instance_of u (last_of upper links)
last_of-instance u upper [] = refl
last_of-instance u upper (link ∷ links) = last_of-instance u link.term links

module _ (u : Use) (chain : Chain) where
  first_given : (given_neighbours u chain).first ≡ instance_of u chain.first
  first_given = go (is_exact chain)
    where
      go : (b : Bool) → (if b then one_neighbour u chain else all_neighbours u chain).first ≡ instance_of u chain.first
      go true = refl
      go false = refl

  last_given : right_of (given_neighbours u chain) ≡ instance_of u (right_of chain)
  last_given = go (is_exact chain)
    where
      go : (b : Bool) → right_of (if b then one_neighbour u chain else all_neighbours u chain) ≡ instance_of u (right_of chain)
      go true = refl
      go false = last_of-instance u chain.first chain.links

  pub used_begins : (direction : Direction) → (used direction u chain).first ≡ instance_of u (from_side direction chain)
  used_begins lr = first_given
  used_begins rl = last_given
