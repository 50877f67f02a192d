use Rattle.std.proofs.Common.{◌≡◌, ℕ, ◌+◌, ◌≤◌, length, map, sym, ap, ap₂, ◌∙◌, subst, arith, None}
use Rattle.std.specs.Prelude.{OnOk}
use Rattle.ipdl_chain.specs.Chains.{neighbour_count}
use Rattle.ipdl_script.proofs.Theorems.{length-trail_links, both_short_if_made, answers_first_wrong}
use Rattle.ipdl_script.specs.Ready.{theorem_between}
use Rattle.ipdl_script.specs.Scripts.{left_side, links_of_script, wrong_in_script, left_links}
use Rattle.ipdl_script.specs.TestGroups.{AnswersScripts, wrong_on_right}
use Rattle.ipdl_script.specs.Trails.{trail_end, trail_links}
use Rattle.ipdl_script.specs.Views.{setting_of}
use Rattle.ipdl_term.specs.Steps.{step_of}
use Rattle.ipdl_term.specs.Views.{protocol_of}
use Rattle.ipdl_script.proofs.theorem.trail_between.Goals as goal

pub followed-requires-clause-whole : goal.followed-requires-clause-whole
followed-requires-clause-whole c =
    record { limits = c.requires.sides.left_limits; typed = c.requires.sides.left_typed }

pub trail_across-requires-clause-whole : goal.trail_across-requires-clause-whole
trail_across-requires-clause-whole c =
    record { limits = c.requires.sides.right_limits; typed = c.requires.sides.right_typed }

pub trail_across-requires-clause-short : goal.trail_across-requires-clause-short
trail_across-requires-clause-short c =
    let marks : length c.as_slice.result.now ≡ length c.in_ok-lefts.lefts.marks = ap length c.as_slice.ensures in
    let links = length-trail_links c.in_ok-lefts.lefts in
    let there = ap length c.in_ok-lefts.ensures.links in
    omega (arith, marks, links, there, c.in_ok-lefts.ensures.short)

pub returns-clause-test : goal.returns-clause-test
returns-clause-test c =
    let x = setting_of c.args.setting.now in
    let n = c.args.neighbours in
    let lefts = c.in_ok-lefts.lefts in
    let t = theorem_between c.args.theorem.now (protocol_of c.args.left.now) (protocol_of c.args.right.now) in
    let left_steps : map step_of c.as_slice-steps.result.now ≡ t.lefts = ap (map step_of) c.as_slice-steps.ensures in
    let links : trail_links lefts ≡ left_links x t = c.in_ok-lefts.ensures.links ∙ ap (links_of_script x t.left) left_steps in
    let passed : wrong_in_script x n left_side 1 t.left t.lefts ≡ None = ap (wrong_in_script x n left_side 1 t.left) (sym left_steps) ∙ c.in_ok-lefts.ensures.test in
    let marks : length c.as_slice.result.now ≡ length lefts.marks = ap length c.as_slice.ensures in
    let right_steps : map step_of c.as_slice-steps-2.result.now ≡ t.rights = ap (map step_of) c.as_slice-steps-2.ensures in
    answers_first_wrong x n t lefts links passed c.trail_across.result c.in_ok-lefts.ensures.first
    (subst (AnswersScripts c.trail_across.result) (ap₂ (λ m steps. wrong_on_right x (n + m) (trail_end lefts) t.right steps) marks right_steps) c.trail_across.ensures.test)

pub returns-clause-short : goal.returns-clause-short
returns-clause-short c =
    let x = setting_of c.args.setting.now in
    let lefts = trail_links c.in_ok-lefts.lefts in
    let right = protocol_of c.args.right.now in
    let rights = links_of_script x right (map step_of c.as_slice-steps-2.result.now) in
    let count : length c.as_slice.result.now ≡ length lefts = ap length c.as_slice.ensures ∙ sym (length-trail_links c.in_ok-lefts.lefts) in
    let Short : ℕ → Type 0 = λ m. OnOk c.trail_across.result (c.args.neighbours + m + neighbour_count rights ≤ 8192) in
    both_short_if_made c.args.neighbours 8192 lefts rights right c.trail_across.result c.trail_across.ensures.links (subst Short count c.trail_across.ensures.short)
