-- What is wrong first with a theorem, from what its two trails tell; and how many neighbours they have together.
use Rattle.std.proofs.Common.{◌≡◌, ℕ, suc, ◌+◌, ◌≤◌, List, ◌++◌, length, map, Result, Ok, Err, Option, None, sym, ap, ap₂, ◌∙◌, subst, arith}
use Rattle.std.proofs.lemmas.List.{length-append}
use Rattle.std.proofs.lemmas.List.Elements.{All-same}
use Rattle.std.specs.Option.{option_or}
use Rattle.std.specs.Prelude.{IfOk, OnOk}
use Rattle.ipdl_chain.specs.Chains.{Link, last_of, neighbour_count, turned_links}
use Rattle.ipdl_chain.proofs.Views.{seen_whole}
use Rattle.ipdl_chain.specs.Views.{HasOneTermMore, IsMarkWithin, others_of}
use Rattle.ipdl_chain.specs.declared.chain.Chain.{Chain}
use Rattle.ipdl_script.proofs.Refusals.{wrong_later, none_wrong}
use Rattle.ipdl_script.proofs.TrailLists.{length-links_of, length-turned_links}
use Rattle.ipdl_script.specs.Scripts.{Theorem, Wrong, left_side, wrong_in_script, left_links, first_wrong}
use Rattle.ipdl_script.specs.Steps.{Setting}
use Rattle.ipdl_script.specs.TestGroups.{AnswersScripts, wrong_on_right}
use Rattle.ipdl_script.specs.Trails.{IsTrailWithin, trail_first, trail_links, trail_end}
use Rattle.ipdl_script.specs.declared.fault.ScriptFault.{ScriptFault}
use Rattle.ipdl_script.specs.declared.trail.Trail.{Trail}
use Rattle.ipdl_term.specs.Channels.{SameSet}
use Rattle.ipdl_term.specs.Terms.{Protocol}
use Rattle.ipdl_term.specs.Views.{protocol_of}
use Rattle.ipdl_term.specs.Within.{IsProtocolWithin}
use Rattle.ipdl_uses.specs.Lemmas.{hidden_in_terms}
use Rattle.ipdl_uses.specs.Views.{IsKept}

-- ---- how many

-- a trail has as many links as marks
pub length-trail_links : (trail : Trail) → length (trail_links trail) ≡ length trail.marks
length-trail_links trail = length-links_of trail.marks (others_of trail.terms)

-- both scripts together keep the limit that the right one kept after the left one
both_short : (n most : ℕ) (lefts rights whole : List Link) (term : Protocol) → whole ≡ lefts ++ turned_links term rights → n + length lefts + length rights ≤ most → n + neighbour_count whole ≤ most
both_short n most lefts rights whole term is short =
    let all = ap length is ∙ length-append lefts (turned_links term rights) in
    let turned = length-turned_links term rights in
    omega (arith, all, turned, short)

-- so does the trail that a call makes of both
pub both_short_if_made : (n most : ℕ) (lefts rights : List Link) (term : Protocol) (r : Result Trail ScriptFault) →
    IfOk r (λ trail. trail_links trail ≡ lefts ++ turned_links term rights) → OnOk r (n + length lefts + neighbour_count rights ≤ most) →
    IfOk r (λ trail. n + neighbour_count (trail_links trail) ≤ most)
both_short_if_made n most lefts rights term (Ok trail) is short = both_short n most lefts rights (trail_links trail) term is short
both_short_if_made n most lefts rights term (Err fault) is short = tt

-- ---- what is wrong

-- what a call tells of the right side and the ends, it tells of all where nothing is wrong on the left
answers_later : {X : Type 0} (r : Result X ScriptFault) (wrong later : Option Wrong) → wrong ≡ None → AnswersScripts r later → AnswersScripts r (option_or wrong later)
answers_later (Ok value) wrong later passed h = none_wrong wrong later passed h
answers_later (Err fault) wrong later passed h = wrong_later fault wrong later passed h

module _ (x : Setting) (n : ℕ) (t : Theorem) (lefts : Trail) (links : trail_links lefts ≡ left_links x t) (passed : wrong_in_script x n left_side 1 t.left t.lefts ≡ None) where
  so_far : n + length lefts.marks ≡ n + neighbour_count (left_links x t)
  so_far = ap (λ k. n + k) (sym (length-trail_links lefts) ∙ ap length links)

  pub answers_first_wrong : {X : Type 0} (r : Result X ScriptFault) → trail_first lefts ≡ t.left →
      AnswersScripts r (wrong_on_right x (n + length lefts.marks) (trail_end lefts) t.right t.rights) → AnswersScripts r (first_wrong x n t)
  answers_first_wrong r first h =
      answers_later r _ _ passed (subst (AnswersScripts r) (ap₂ (λ m p. wrong_on_right x m p t.right t.rights) so_far (ap₂ last_of first links)) h)

-- ---- the chain that is kept

pub trail_is_kept : (symbols : ℕ) (trail : Trail) (chain : Chain) → chain.terms ≡ trail.terms → chain.marks ≡ trail.marks → IsTrailWithin symbols trail →
    SameSet chain.hidden (hidden_in_terms (map protocol_of chain.terms)) → IsKept symbols chain
trail_is_kept symbols trail chain ts ms within hidden =
    let complete : HasOneTermMore chain = ap length ts ∙ within.paired ∙ sym (ap (λ marks. suc (length marks)) ms) in
    record {
      complete = complete;
      within = record {
        terms = All-same (λ term. IsProtocolWithin symbols (protocol_of term)) chain.terms trail.terms ts within.terms;
        marks = All-same (λ mark. IsMarkWithin symbols mark) chain.marks trail.marks ms within.marks;
      };
      hidden = subst (λ terms. SameSet chain.hidden (hidden_in_terms terms)) (sym (seen_whole chain complete).0) hidden;
    }
