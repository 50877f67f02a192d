use Rattle.std.proofs.Common.{◌≡◌, ℕ, ◌+◌, ◌++◌, ◌∷◌, List, None, length, map, drop, sym, ap, ap₂, ◌∙◌, subst, arith}
use Rattle.std.proofs.lemmas.List.{at_drop_more}
use Rattle.ipdl_chain.specs.Chains.{last_of}
use Rattle.ipdl_script.proofs.Scripts.{IsFollowed, followed_on, told_of_next}
use Rattle.ipdl_script.specs.Adding.{IsAdded}
use Rattle.ipdl_script.specs.Answers.{TellsRefusal}
use Rattle.ipdl_script.specs.Scripts.{links_of_script, refusal_in_script, wrong_in_script}
use Rattle.ipdl_script.specs.Trails.{trail_end}
use Rattle.ipdl_script.specs.Views.{setting_of, side_of}
use Rattle.ipdl_term.specs.Steps.{Step, step_of}
use Rattle.ipdl_term.specs.Terms.{Protocol}
use Rattle.ipdl_term.specs.Views.{protocol_of}
use Rattle.ipdl_script.proofs.following.followed.Goals as goal

pub loop-step-init : goal.loop-step-init
loop-step-init c =
    let x = setting_of c.args.setting.now in
    let steps = map step_of c.args.steps.now in
    let links = c.in_ok-trail.ensures.links in
    let first = c.in_ok-trail.ensures.first in
    let none = ap length links in
    record {
      fits = c.in_ok-trail.ensures.trail x c.requires.whole;
      first = first;
      links = ap₂ (λ ls f. ls ++ links_of_script x (last_of f ls) steps) links first;
      wrong = sym (ap₂ (λ ls f. wrong_in_script x c.args.neighbours (side_of c.args.side) 1 (last_of f ls) steps) links first);
      count = omega (arith, none);
      short = c.requires.short;
      numbered = omega arith;
    }

pub returns-in-Err-clause-test : goal.returns-in-Err-clause-test
returns-in-Err-clause-test c =
    let x = setting_of c.args.setting.now in
    let steps = c.args.steps.now in
    let i = c.loop-step.step-index in
    let step = c.step-item.result in
    let rest = map step_of (drop (i + 1) steps) in
    let split : map step_of (drop i steps) ≡ step_of step ∷ rest = at_drop_more (map step_of) steps i step c.loop-step-test.true ∙ ap (λ s. step_of s ∷ rest) (sym c.step-item.is) in
    let Followed : List Step → Type 0 =
    λ later. IsFollowed x c.args.neighbours (side_of c.args.side) (protocol_of c.args.from.now) (map step_of steps) c.loop-step.trail c.loop-step.so_far c.loop-step.number later in
    let Told : Protocol → Type 0 = λ before. TellsRefusal c.in-Err.fault (refusal_in_script x c.loop-step.so_far before (step_of step)) in
    told_of_next x c.args.neighbours (side_of c.args.side) (protocol_of c.args.from.now) (map step_of steps) c.loop-step.trail c.loop-step.so_far c.loop-step.number (step_of step) rest c.wrong_at.result
    (subst Followed split c.loop-step.invariant) (c.wrong_at.ensures _ (subst Told c.end.ensures c.in-Err.ensures.test))

pub loop-step-preserved : goal.loop-step-preserved
loop-step-preserved c =
    let x = setting_of c.args.setting.now in
    let steps = c.args.steps.now in
    let i = c.loop-step.step-index in
    let step = c.step-item.result in
    let rest = map step_of (drop (i + 1) steps) in
    let split : map step_of (drop i steps) ≡ step_of step ∷ rest = at_drop_more (map step_of) steps i step c.loop-step-test.true ∙ ap (λ s. step_of s ∷ rest) (sym c.step-item.is) in
    let old = c.loop-step.trail in
    let new = c.in_ok-trail-in-Ok.trail in
    let n = c.loop-step.so_far in
    let number = c.loop-step.number in
    let terms = c.in-Ok.added.terms in
    let marks = c.in-Ok.added.marks in
    let Followed : List Step → Type 0 =
    λ later. IsFollowed x c.args.neighbours (side_of c.args.side) (protocol_of c.args.from.now) (map step_of steps) old n number later in
    let Further : ℕ → Type 0 =
    λ more. IsFollowed x c.args.neighbours (side_of c.args.side) (protocol_of c.args.from.now) (map step_of steps) new (n + more) (number + 1) rest in
    let so_far : Followed (step_of step ∷ rest) = subst Followed split c.loop-step.invariant in
    let Added : Protocol → Type 0 = λ before. IsAdded x before (step_of step) terms marks in
    let Passed : Protocol → Type 0 = λ before. refusal_in_script x n before (step_of step) ≡ None in
    let added : Added (trail_end old) = subst Added c.end.ensures c.in-Ok.ensures.added in
    let next = c.in_ok-trail-in-Ok.ensures in
    let count : length c.as_slice.result.now ≡ length marks = ap length c.as_slice.ensures in
    subst Further (sym count)
    (followed_on x c.args.neighbours (side_of c.args.side) (protocol_of c.args.from.now) (map step_of steps) old new n number (step_of step) rest terms marks
    so_far added (subst Passed c.end.ensures c.in-Ok.ensures.test) next.first next.links (next.within (length x.sig) so_far.fits.within added.terms added.marks) c.in-Ok.ensures.short)
