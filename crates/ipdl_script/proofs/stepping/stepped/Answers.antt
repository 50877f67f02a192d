use Rattle.std.proofs.Common.{◌≡◌, List, ℕ, ap, sym, ◌∙◌}
use Rattle.std.proofs.lemmas.Result.{err_from_is_err_and}
use Rattle.ipdl_script.proofs.StepParts.{told_of_part, told_of_whole}
use Rattle.ipdl_script.specs.Steps.{after_step}
use Rattle.ipdl_script.specs.Views.{setting_of}
use Rattle.ipdl_term.specs.Places.{protocol_or, term_with}
use Rattle.ipdl_term.specs.Steps.{step_of}
use Rattle.ipdl_term.specs.Terms.{Protocol, protocol_term}
use Rattle.ipdl_term.specs.Views.{protocol_of, term_of}
use Rattle.ipdl_script.proofs.stepping.stepped.Goals as goal

pub returns-in_err-part-clause-steps : goal.returns-in_err-part-clause-steps
returns-in_err-part-clause-steps c =
    let p = err_from_is_err_and c.from_residual.result c.from_residual.ensures.1 in
    rw (p.1, p.2) (told_of_part (setting_of c.args.setting.now) (protocol_of c.args.before.now) (step_of c.args.step.now) c.requires.by _ c.in_err-part.ensures.test)

pub returns-clause-steps : goal.returns-clause-steps
returns-clause-steps c =
    let x = setting_of c.args.setting.now in
    let before = protocol_of c.args.before.now in
    let there : List ℕ → Protocol = λ place. protocol_or before (term_with (protocol_term before) place (term_of c.in_ok-part.part.value)) in
    let place = c.path_of.ensures in
    let is : after_step x before (step_of c.args.step.now) ≡ protocol_of c.in_ok-after.after =
    c.in_ok-part.ensures.changed.whole ∙ ap there (sym place) ∙ sym (ap (protocol_or before) c.in_ok-after.ensures) in
    told_of_whole x before (step_of c.args.step.now) c.requires.by (protocol_of c.in_ok-after.after) c.accepted.result c.in_ok-part.ensures.test is c.accepted.ensures.test c.accepted.ensures.same

pub accepted-requires-clause-after : goal.accepted-requires-clause-after
accepted-requires-clause-after c =
    let x = setting_of c.args.setting.now in
    let before = protocol_of c.args.before.now in
    let there : List ℕ → Protocol = λ place. protocol_or before (term_with (protocol_term before) place (term_of c.in_ok-part.part.value)) in
    c.in_ok-part.ensures.changed.whole ∙ ap there (sym c.path_of.ensures) ∙ sym (ap (protocol_or before) c.in_ok-after.ensures)
