-- The links of a step lead to the whole term to which the step leads.
use Rattle.std.proofs.Common.{◌≡◌, ℕ, Bool, true, false, nat_eq, List, [], ◌∷◌, ◌++◌, Some, refl, sym, ap, ◌∙◌, subst}
use Rattle.std.specs.Prelude.{if◌then◌else◌}
use Rattle.ipdl_chain.specs.Chains.{Link, Chain, last_of, assumed_count, turned_mark, turned_links}
use Rattle.ipdl_embed.specs.Completing.{completed}
use Rattle.ipdl_embed.specs.Pairs.{Pairs}
use Rattle.ipdl_laws.proofs.PlaceLaws.{context_at_place}
use Rattle.ipdl_script.specs.Scripts.{links_of_step}
use Rattle.ipdl_script.specs.Steps.{Setting, used_at, used_there, IsUseStep, IsStep}
use Rattle.ipdl_term.specs.Places.{context_at}
use Rattle.ipdl_term.specs.Steps.{Direction, lr, rl, Step, plain, rev, invoke}
use Rattle.ipdl_term.specs.Terms.{Protocol, Context}
use Rattle.ipdl_uses.proofs.Chains.{last_of-append}
use Rattle.ipdl_uses.specs.Lemmas.{is_exact}
use Rattle.ipdl_uses.specs.Uses.{Use, instance_of, instance_links, one_neighbour, all_neighbours, used}

-- where a chain ends whatever it begins with, since it has a link
abbrev HasOneEnd : List Link → Type 0
HasOneEnd links = (p q : Protocol) → last_of p links ≡ last_of q links

turned_ends : (first : Protocol) (link : Link) (links : List Link) → HasOneEnd (turned_links first (link ∷ links))
turned_ends first link links p q =
    let back = turned_links link.term links in
    let last : List Link = record { mark = turned_mark link.mark; term = first } ∷ [] in
    last_of-append p back last ∙ sym (last_of-append q back last)

-- A chain that counts an assumption has a link.
given_ends : (direction : Direction) (u : Use) (first : Protocol) (links : List Link) (exact : Bool) → nat_eq (assumed_count links) 0 ≡ exact →
    (let chain : Chain = record { first = first; links = links } in
    let given = if exact then one_neighbour u chain else all_neighbours u chain in
    HasOneEnd given.links × HasOneEnd (turned_links given.first given.links))
given_ends direction u first links true h = (λ p q. refl, λ p q. refl)
given_ends direction u first [] false h = cc
given_ends direction u first (link ∷ links) false h =
    (λ p q. refl, turned_ends (instance_of u first) _ (instance_links u link.term links))

used_ends : (direction : Direction) (u : Use) (chain : Chain) → HasOneEnd (used direction u chain).links
used_ends lr u chain = (given_ends lr u chain.first chain.links (is_exact chain) refl).0
used_ends rl u chain = (given_ends rl u chain.first chain.links (is_exact chain) refl).1

module _ (x : Setting) where
  -- what is used by a step that stands, in the context at its place
  pub used_is : (before : Protocol) (place name : List ℕ) (direction : Direction) (pairs : Pairs) (after : Protocol) (h : IsUseStep x before place name direction pairs after) →
      (C : Context) × (context_at before place ≡ Some C) ×
      (used_there x before place name direction pairs ≡ used direction (record { name = name; place = place; around = C; pairs = completed h.lemma.interface pairs }) h.lemma.chain)
  used_is before place name direction pairs after h =
      let found = context_at_place before place h.part h.at_place in (
        found.0,
        found.1,
        ap (λ o. used_at before place name direction pairs o (context_at before place)) h.there ∙ ap (used_at before place name direction pairs (Some h.lemma)) found.1,
      )

  pub step_leads : (before : Protocol) (step : Step) (after : Protocol) → IsStep x before step after → last_of before (links_of_step x before step after) ≡ after
  step_leads before (plain place rule) after h = refl
  step_leads before (rev place rule term) after h = refl
  step_leads before (invoke place name direction pairs) after h =
      let found = used_is before place name direction pairs after h in
      let chain = used_there x before place name direction pairs in
      let ends : HasOneEnd chain.links = subst (λ (c : Chain). HasOneEnd c.links) (sym found.2) (used_ends direction _ h.lemma.chain) in
      ends before chain.first ∙ h.leads

  -- what follows goes on from there
  pub last_of-step : (before : Protocol) (step : Step) (after : Protocol) (later : List Link) → IsStep x before step after → last_of before (links_of_step x before step after ++ later) ≡ last_of after later
  last_of-step before step after later h =
      last_of-append before (links_of_step x before step after) later ∙ ap (λ p. last_of p later) (step_leads before step after h)
