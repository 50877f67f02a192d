-- What the neighbours of a step, of a script and of a chain mean, and where a chain ends.
use Rattle.std.proofs.Common.{◌≡◌, ℕ, ◌+◌, List, [], ◌∷◌, ◌++◌, sym, ap, ap₂, ◌∙◌, subst}
use Rattle.ipdl_chain.proofs.Turns.{last_of-turned}
use Rattle.ipdl_chain.specs.Chains.{by_rule, Link, Chain, last_of, neighbour_count, turned_links}
use Rattle.ipdl_embed.specs.Completing.{completed}
use Rattle.ipdl_embed.specs.Pairs.{Pairs}
use Rattle.ipdl_laws.proofs.EqualLaws.{equal_sym}
use Rattle.ipdl_rules_r.specs.Tables.{TablesAreWhole}
use Rattle.ipdl_script.proofs.InstanceLaws.{instance_is_equal}
use Rattle.ipdl_script.proofs.Leading.{used_is, step_leads}
use Rattle.ipdl_script.proofs.MarkLaws.{rewritten, rewritten_back}
use Rattle.ipdl_script.specs.Meanings.{IsRewritten, LemmasMean}
use Rattle.ipdl_script.specs.Scripts.{Theorem, links_of_step, count_after, IsScript, IsChain}
use Rattle.ipdl_script.specs.Steps.{Setting, scope_in, assumed_in, used_there, IsUseStep, IsStep}
use Rattle.ipdl_term.specs.Rules.{Rule, rule_word}
use Rattle.ipdl_term.specs.Steps.{Direction, lr, rl, Step, plain, rev, invoke}
use Rattle.ipdl_term.specs.Terms.{Protocol}
use Rattle.ipdl_term.specs.Typing.{HasInterface, port_names}
use Rattle.ipdl_uses.proofs.Chains.{last_of-append, means_alone, means_one, means_joined, means_turned}
use Rattle.ipdl_uses.proofs.UsedMeans.{used_means}
use Rattle.ipdl_uses.specs.Meanings.{AreEqualAt, ChainMeans}
use Rattle.ipdl_uses.specs.Uses.{used}

module _ (x : Setting) where
  -- these links mean what they say from the term on
  abbrev LinksMean : Protocol → List Link → Type 0
  LinksMean first links = ChainMeans x.sig x.interface (assumed_in x) (record { first = first; links = links })

  -- ---- steps

  rewritten_is_equal : TablesAreWhole x.sig → (rule : Rule) (place : List ℕ) (first second : Protocol) → HasInterface x.sig x.interface first → HasInterface x.sig x.interface second → IsRewritten x rule place first second → AreEqualAt x.sig x.interface first second
  rewritten_is_equal tables rule place first second typed typed' h =
      instance_is_equal x.sig (scope_in x) (port_names x.interface.outputs) first second place tables rule h.left h.right typed typed' h.there h.whole h.sides

  rule_means : (direction : Direction) (word place : List ℕ) (before after : Protocol) → HasInterface x.sig x.interface before → HasInterface x.sig x.interface after → AreEqualAt x.sig x.interface before after →
      LinksMean before (record { mark = by_rule direction word place; term = after } ∷ [])
  rule_means direction word place before after typed typed' same =
      means_one x.sig x.interface (assumed_in x) before _ typed typed' same (λ are_true. same)

  use_means : LemmasMean x → (before : Protocol) (place name : List ℕ) (direction : Direction) (pairs : Pairs) (after : Protocol) → HasInterface x.sig x.interface before → IsUseStep x before place name direction pairs after →
      LinksMean before (used_there x before place name direction pairs).links
  use_means lemmas before place name direction pairs after typed h =
      let found = used_is x before place name direction pairs after h in
      let chain = used direction (record { name = name; place = place; around = found.0; pairs = completed h.lemma.interface pairs }) h.lemma.chain in
      let means = used_means x.sig (assumed_in x) x.interface before typed place name h.part found.0 h.at_place found.1 h.lemma (lemmas name h.lemma h.there) direction pairs h.usable in
      subst (λ (c : Chain). LinksMean before c.links) (sym found.2) (subst (λ p. LinksMean p chain.links) means.1 means.0)

  pub step_means : TablesAreWhole x.sig → LemmasMean x → (before : Protocol) (step : Step) (after : Protocol) → HasInterface x.sig x.interface before → IsStep x before step after → LinksMean before (links_of_step x before step after)
  step_means tables lemmas before (plain place rule) after typed h =
      rule_means lr (rule_word rule) place before after typed h.typed (rewritten_is_equal tables _ place before after typed h.typed (rewritten x before place rule after h))
  step_means tables lemmas before (rev place rule term) after typed h =
      rule_means rl (rule_word rule) place before after typed h.typed
      (equal_sym x.sig (scope_in x) (port_names x.interface.outputs) after before (rewritten_is_equal tables _ place after before h.typed typed (rewritten_back x before place rule term after h)))
  step_means tables lemmas before (invoke place name direction pairs) after typed h = use_means lemmas before place name direction pairs after typed h

  -- ---- scripts

  after_is_typed : (before : Protocol) (step : Step) (after : Protocol) → IsStep x before step after → HasInterface x.sig x.interface after
  after_is_typed before (plain place rule) after h = h.typed
  after_is_typed before (rev place rule term) after h = h.typed
  after_is_typed before (invoke place name direction pairs) after h = h.typed

  script_means : TablesAreWhole x.sig → LemmasMean x → (so_far : ℕ) (before : Protocol) (steps : List Step) (links : List Link) → HasInterface x.sig x.interface before → IsScript x so_far before steps links → LinksMean before links
  script_means tables lemmas so_far before [] links typed h =
      subst (LinksMean before) (sym h) (means_alone x.sig x.interface (assumed_in x) before typed)
  script_means tables lemmas so_far before (step ∷ steps) links typed h =
      let first = step_means tables lemmas before step h.after typed h.stands in
      let rest = script_means tables lemmas (count_after x so_far before step h.after) h.after steps h.later (after_is_typed before step h.after h.stands) h.rest in
      subst (LinksMean before) (sym h.all)
      (means_joined x.sig x.interface (assumed_in x) before (links_of_step x before step h.after) h.later first
      (subst (λ p. LinksMean p h.later) (sym (step_leads x before step h.after h.stands)) rest))

  -- ---- chains

  module _ (so_far : ℕ) (t : Theorem) (chain : Chain) (h : IsChain x so_far t chain) where
    -- the last term is the right protocol
    pub chain_ends : last_of chain.first chain.links ≡ t.right
    chain_ends =
        ap (λ p. last_of p chain.links) h.first ∙ ap (last_of t.left) h.links ∙ last_of-append t.left h.lefts (turned_links t.right h.rights) ∙
        ap (λ p. last_of p (turned_links t.right h.rights)) h.meet ∙ last_of-turned t.right h.rights

    pub chain_means : TablesAreWhole x.sig → LemmasMean x → HasInterface x.sig x.interface t.left → HasInterface x.sig x.interface t.right → ChainMeans x.sig x.interface (assumed_in x) chain
    chain_means tables lemmas left right =
        let lefts = script_means tables lemmas so_far t.left t.lefts h.lefts left h.left_script in
        let rights = script_means tables lemmas (so_far + neighbour_count h.lefts) t.right t.rights h.rights right h.right_script in
        let back : LinksMean (last_of t.left h.lefts) (turned_links t.right h.rights) =
        subst (λ p. LinksMean p (turned_links t.right h.rights)) (sym h.meet) (means_turned x.sig x.interface (assumed_in x) (record { first = t.right; links = h.rights }) rights) in
        let joined = means_joined x.sig x.interface (assumed_in x) t.left h.lefts (turned_links t.right h.rights) lefts back in
        let parts : chain ≡ record { first = t.left; links = h.lefts ++ turned_links t.right h.rights } = ap₂ (λ (f : Protocol) (ls : List Link). let c : Chain = record { first = f; links = ls } in c) h.first h.links in
        subst (ChainMeans x.sig x.interface (assumed_in x)) (sym parts) joined
