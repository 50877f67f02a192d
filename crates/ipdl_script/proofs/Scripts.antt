-- One step in a script: how many neighbours it adds, and how the script goes on after it.
use Rattle.std.proofs.Common.{◌≡◌, ℕ, suc, ◌+◌, ◌<◌, ◌≤◌, Bool, true, false, nat_eq, List, [], ◌∷◌, ◌++◌, length, Some, None, refl, sym, ap, ap₂, ◌∙◌, subst, add-one, append_assoc, arith}
use Rattle.std.proofs.lemmas.List.{length-append}
use Rattle.std.specs.Option.{option_or}
use Rattle.std.specs.Prelude.{option_map, if◌then◌else◌}
use Rattle.ipdl_base.specs.Limits.{limit_number}
use Rattle.ipdl_base.specs.declared.limit.Limit.TheVariants.{Chain as ChainLimit}
use Rattle.ipdl_chain.specs.Chains.{Link, Chain, last_of, assumed_count}
use Rattle.ipdl_chain.specs.Views.{links_of}
use Rattle.ipdl_chain.specs.declared.chain.Mark.{Mark as HeldMark}
use Rattle.ipdl_script.proofs.Leading.{used_is}
use Rattle.ipdl_script.proofs.Refusals.{told_first, told_later, none_told, wrong_first}
use Rattle.ipdl_script.proofs.StepLaws.{stands_step}
use Rattle.ipdl_script.proofs.StepTests.{limit_test-kept, none_of_either}
use Rattle.ipdl_script.proofs.TrailLists.{length-links_of, length-turned_links}
use Rattle.ipdl_script.proofs.WholeTerms.{limit_test-over}
use Rattle.ipdl_script.specs.Adding.{IsAdded}
use Rattle.ipdl_script.specs.Answers.{TellsWrong}
use Rattle.ipdl_script.specs.Scripts.{Side, wrong_step, links_of_step, links_of_script, count_after, chain_test, refusal_in_script, wrong_in_script}
use Rattle.ipdl_script.specs.Steps.{Setting, IsStep, over, limit_test, step_refusal, after_step}
use Rattle.ipdl_script.specs.Fitting.{WholeFits}
use Rattle.ipdl_script.specs.Trails.{IsTrail, IsTrailWithin, trail_first, trail_links, trail_end}
use Rattle.ipdl_script.specs.declared.fault.ScriptFault.{ScriptFault}
use Rattle.ipdl_script.specs.declared.trail.Trail.{Trail}
use Rattle.ipdl_term.specs.Steps.{Direction, lr, rl, Step, plain, rev, invoke}
use Rattle.ipdl_term.specs.Terms.{Protocol}
use Rattle.ipdl_term.specs.declared.protocol.Proto.{Proto}
use Rattle.ipdl_uses.proofs.Chains.{last_of-append}
use Rattle.ipdl_uses.specs.Lemmas.{is_exact}
use Rattle.ipdl_uses.specs.Uses.{Use, one_neighbour, all_neighbours, used}

-- ---- each step adds a neighbour

-- a chain that counts an assumption has a neighbour
given_adds : (u : Use) (first : Protocol) (links : List Link) (exact : Bool) → nat_eq (assumed_count links) 0 ≡ exact →
    (let chain : Chain = record { first = first; links = links } in
    let given = if exact then one_neighbour u chain else all_neighbours u chain in
    0 < length given.links)
given_adds u first links true h = omega arith
given_adds u first [] false h = cc
given_adds u first (link ∷ links) false h = omega arith

used_adds : (direction : Direction) (u : Use) (chain : Chain) → 0 < length (used direction u chain).links
used_adds lr u chain = given_adds u chain.first chain.links (is_exact chain) refl
used_adds rl u chain =
    let given = used lr u chain in
    subst (λ n. 0 < n) (sym (length-turned_links given.first given.links)) (given_adds u chain.first chain.links (is_exact chain) refl)

step_adds : (x : Setting) (before : Protocol) (step : Step) (after : Protocol) → IsStep x before step after → 0 < length (links_of_step x before step after)
step_adds x before (plain place rule) after h = omega arith
step_adds x before (rev place rule term) after h = omega arith
step_adds x before (invoke place name direction pairs) after h =
    subst (λ (chain : Chain). 0 < length chain.links) (sym (used_is x before place name direction pairs after h).2) (used_adds direction _ h.lemma.chain)

-- ---- what is added

module _ (x : Setting) (before : Protocol) (step : Step) (terms : List Proto) (marks : List HeldMark) (added : IsAdded x before step terms marks) where
  -- as many neighbours as marks
  pub count_after-added : (n : ℕ) → count_after x n before step (after_step x before step) ≡ n + length marks
  count_after-added n = ap (λ k. n + k) (ap length (sym added.links) ∙ length-links_of marks terms)

  pub chain_test-kept : (n : ℕ) → n + length marks ≤ limit_number ChainLimit → chain_test x n before step (after_step x before step) ≡ None
  chain_test-kept n h =
      subst (λ m. limit_test ChainLimit (limit_number ChainLimit) m ≡ None) (sym (count_after-added n)) (limit_test-kept ChainLimit (limit_number ChainLimit) (n + length marks) h)

  pub chain_test-over : (n : ℕ) → limit_number ChainLimit < n + length marks → chain_test x n before step (after_step x before step) ≡ Some (over ChainLimit)
  chain_test-over n h =
      subst (λ m. limit_test ChainLimit (limit_number ChainLimit) m ≡ Some (over ChainLimit)) (sym (count_after-added n)) (limit_test-over ChainLimit (limit_number ChainLimit) (n + length marks) h)

  -- at least one
  some_added : (n : ℕ) → refusal_in_script x n before step ≡ None → 0 < length marks
  some_added n passed =
      let stands = stands_step x before step (none_of_either (step_refusal x before step) _ passed).0 in
      subst (λ k. 0 < k) (ap length (sym added.links) ∙ length-links_of marks terms) (step_adds x before step (after_step x before step) stands)

  -- ---- and then the rest of the script

  module _ (middle : Protocol) (there : middle ≡ after_step x before step) (rest : List Step) where
    wrong_later-is : (n : ℕ) (side : Side) (number : ℕ) → refusal_in_script x n before step ≡ None →
        wrong_in_script x n side number before (step ∷ rest) ≡ wrong_in_script x (n + length marks) side (number + 1) middle rest
    wrong_later-is n side number passed =
        let after = after_step x before step in
        ap (λ refusal. option_or (option_map (wrong_step side number) refusal) (wrong_in_script x (count_after x n before step after) side (suc number) after rest)) passed
        ∙ ap (λ m. wrong_in_script x m side (suc number) after rest) (count_after-added n)
        ∙ ap (λ k. wrong_in_script x (n + length marks) side k after rest) (sym (add-one number))
        ∙ ap (λ p. wrong_in_script x (n + length marks) side (number + 1) p rest) (sym there)

    links_on : (old new : List Link) → new ≡ old ++ links_of marks terms → new ++ links_of_script x middle rest ≡ old ++ links_of_script x before (step ∷ rest)
    links_on old new h =
        let after = after_step x before step in
        ap₂ (λ links p. links ++ links_of_script x p rest) h there
        ∙ append_assoc old (links_of marks terms) (links_of_script x after rest)
        ∙ ap (λ links. old ++ (links ++ links_of_script x after rest)) added.links

pub ruleset next_terms = (chain_test-kept, chain_test-over, told_first, told_later, none_told)

-- ---- the steps so far

module _ (x : Setting) (n : ℕ) (side : Side) (from : Protocol) (steps : List Step) where
  -- The steps before the rest have led to the end of the trail. So many neighbours there are then, and the first step of
  -- the rest has this number.
  pub record IsFollowed (trail : Trail) (so_far number : ℕ) (rest : List Step) : Type 0 where
    pub fits : IsTrail x trail
    pub first : trail_first trail ≡ from
    pub links : trail_links trail ++ links_of_script x (trail_end trail) rest ≡ links_of_script x from steps
    pub wrong : wrong_in_script x n side 1 from steps ≡ wrong_in_script x so_far side number (trail_end trail) rest
    pub count : so_far ≡ n + length (trail_links trail)
    pub short : so_far ≤ limit_number ChainLimit
    pub numbered : number ≤ so_far + 1

  pub followed_on : (old new : Trail) (so_far number : ℕ) (step : Step) (rest : List Step) (terms : List Proto) (marks : List HeldMark) →
      IsFollowed old so_far number (step ∷ rest) → IsAdded x (trail_end old) step terms marks → refusal_in_script x so_far (trail_end old) step ≡ None →
      trail_first new ≡ trail_first old → trail_links new ≡ trail_links old ++ links_of marks terms → IsTrailWithin (length x.sig) new → so_far + length marks ≤ limit_number ChainLimit →
      IsFollowed new (so_far + length marks) (number + 1) rest
  followed_on old new so_far number step rest terms marks h added passed first links within short =
      let before = trail_end old in
      let there : trail_end new ≡ after_step x before step = ap₂ last_of first links ∙ last_of-append (trail_first old) (trail_links old) (links_of marks terms) ∙ added.leads in
      let longer = ap length links ∙ length-append (trail_links old) (links_of marks terms) in
      let more = length-links_of marks terms in
      let some = some_added x before step terms marks added so_far passed in
      record {
        fits = record { within = within; end = subst (WholeFits x) (sym there) added.end };
        first = first ∙ h.first;
        links = links_on x before step terms marks added (trail_end new) there rest (trail_links old) (trail_links new) links ∙ h.links;
        wrong = h.wrong ∙ wrong_later-is x before step terms marks added (trail_end new) there rest so_far side number passed;
        count = omega (arith, h.count, longer, more);
        short = short;
        numbered = omega (arith, h.numbered, some);
      }

  -- what is told of the next step is told of the script
  pub told_of_next : (trail : Trail) (so_far number : ℕ) (step : Step) (rest : List Step) (fault : ScriptFault) → IsFollowed trail so_far number (step ∷ rest) →
      TellsWrong fault (option_map (wrong_step side number) (refusal_in_script x so_far (trail_end trail) step)) → TellsWrong fault (wrong_in_script x n side 1 from steps)
  told_of_next trail so_far number step rest fault h told = subst (TellsWrong fault) (sym h.wrong) (wrong_first fault _ _ told)
