-- A chain that means what it says gives one, where it may be used, that does so too.
use Rattle.std.proofs.Common.{◌≡◌, ℕ, Bool, true, false, if◌then◌else◌, List, ◌++◌, Option, Some, refl, sym, ap, ◌∙◌}
use Rattle.std.specs.List.{AllByRecursion}
use Rattle.std.specs.Map.{values_of}
use Rattle.ipdl_chain.specs.Chains.{by_theorem, Link, Chain, terms_of}
use Rattle.ipdl_embed.specs.Completing.{completed}
use Rattle.ipdl_embed.specs.Pairs.{Pairs}
use Rattle.ipdl_instances.proofs.Instances.{place_of_context}
use Rattle.ipdl_instances.specs.Sites.{IsSite}
use Rattle.ipdl_term.specs.Contexts.{plugged}
use Rattle.ipdl_term.specs.Interpretations.{Signature}
use Rattle.ipdl_term.specs.Places.{context_at, term_at}
use Rattle.ipdl_term.specs.Steps.{Direction, lr, rl}
use Rattle.ipdl_term.specs.Surroundings.{around, outermost}
use Rattle.ipdl_term.specs.Terms.{Context, Protocol, protocol_term}
use Rattle.ipdl_term.specs.Typing.{HasInterface, scope_of, port_names}
use Rattle.ipdl_term.specs.declared.interface.Interface.{Interface}
use Rattle.ipdl_uses.proofs.CarriedMarks.{IsFree, instance_typed, instances_equal, all_means}
use Rattle.ipdl_uses.proofs.Chains.{all_at_last, means_one, means_turned, ends_equal_where_exact}
use Rattle.ipdl_uses.proofs.Sites.{hidden_in_none, site_of_use}
use Rattle.ipdl_uses.proofs.UsedEnds.{used_begins}
use Rattle.ipdl_uses.specs.Lemmas.{Lemma, right_of, is_exact}
use Rattle.ipdl_uses.specs.Meanings.{Sides, ChainMeans}
use Rattle.ipdl_uses.specs.Usable.{IsUsable}
use Rattle.ipdl_uses.specs.Uses.{Use, instance_of, one_neighbour, all_neighbours, given_neighbours, used, from_side}

-- what holds of all terms holds of the side from which the chain is used
all_at_side : (P : Protocol → Type 0) (direction : Direction) (chain : Chain) → AllByRecursion P (terms_of chain) → P (from_side direction chain)
all_at_side P lr chain all = all.0
all_at_side P rl chain all = all_at_last P chain.first chain.links all.0 all.1

module _ (sig : Signature) (i j : Interface) (u : Use) (site : IsSite sig j u.pairs u.around (scope_of (i.inputs ++ i.outputs)) (port_names i.outputs)) (assumed : List ℕ → Option Sides) (chain : Chain) (free : AllByRecursion (IsFree u) (terms_of chain)) (means : ChainMeans sig j assumed chain) where
  -- the two ends of a chain that counts no assumption
  one_means : is_exact chain ≡ true → ChainMeans sig i assumed (one_neighbour u chain)
  one_means exact =
      let right = right_of chain in
      let right_free = all_at_side (IsFree u) rl chain free in
      let right_typed = all_at_side (HasInterface sig j) rl chain means.typed in
      let link : Link = record { mark = by_theorem lr u.name u.place u.pairs; term = instance_of u right } in
      let equal = instances_equal u sig i j site chain.first right free.0 right_free (ends_equal_where_exact sig j assumed chain means exact) in
      means_one sig i assumed (instance_of u chain.first) link (instance_typed u sig i j site chain.first means.typed.0 free.0) (instance_typed u sig i j site right right_typed right_free)
      equal (λ are_true. equal)

  given_means : ChainMeans sig i assumed (given_neighbours u chain)
  given_means = go (is_exact chain) refl
    where
      go : (b : Bool) → is_exact chain ≡ b → ChainMeans sig i assumed (if b then one_neighbour u chain else all_neighbours u chain)
      go true exact = one_means exact
      go false counts = all_means u sig i j site assumed chain free means

  -- the neighbours at a site, in either direction
  pub means_at_site : (direction : Direction) → ChainMeans sig i assumed (used direction u chain)
  means_at_site lr = given_means
  means_at_site rl = means_turned sig i assumed (given_neighbours u chain) given_means

pub used_means : (sig : Signature) (assumed : List ℕ → Option Sides) (i : Interface) (before : Protocol) → HasInterface sig i before →
    (place name : List ℕ) (part : Protocol) (C : Context) → term_at (protocol_term before) place ≡ Some (protocol_term part) → context_at before place ≡ Some C →
    (lemma : Lemma) → ChainMeans sig lemma.interface assumed lemma.chain → (direction : Direction) (pairs : Pairs) →
    IsUsable lemma direction part (around (outermost (scope_of (i.inputs ++ i.outputs))) (protocol_term before) place).scope pairs →
    let chain = used direction (record { name = name; place = place; around = C; pairs = completed lemma.interface pairs }) lemma.chain in
    ChainMeans sig i assumed chain × (chain.first ≡ before)
used_means sig assumed i before typed place name part C there around_it lemma means direction pairs usable =
    let u : Use = record { name = name; place = place; around = C; pairs = completed lemma.interface pairs } in
    let free = hidden_in_none (values_of u.pairs) (terms_of lemma.chain) usable.free in
    let site = site_of_use sig i before typed place part C there around_it lemma direction pairs (all_at_side (HasInterface sig lemma.interface) direction lemma.chain means.typed) (all_at_side (IsFree u) direction lemma.chain free) usable in (
      means_at_site sig i lemma.interface u site assumed lemma.chain free means direction,
      used_begins u lemma.chain direction ∙ ap (plugged C) (sym usable.side) ∙ sym (place_of_context before place C part around_it there).0,
    )
