use Rattle.std.proofs.Common.{length}
use Rattle.ipdl_script.proofs.StepParts.{one_is_added}
use Rattle.ipdl_script.specs.Views.{setting_of}
use Rattle.ipdl_term.specs.Steps.{step_of}
use Rattle.ipdl_term.specs.Views.{protocol_of}
use Rattle.ipdl_script.proofs.stepping.added_by_rule.Goals as goal

pub returns-clause-added : goal.returns-clause-added
returns-clause-added c =
    let x = setting_of c.args.setting.now in
    let before = protocol_of c.args.before.now in
    let after = protocol_of c.in_ok-after.after in
    one_is_added x before (step_of c.args.step.now) c.in_ok-after.after c.in_ok-mark.mark _ _ c.in_ok-one_added.ensures.terms c.in_ok-one_added.ensures.marks
    c.in_ok-after.ensures.steps.1 c.in_ok-after.ensures.fits (c.in_ok-mark.ensures.link x before after) (c.in_ok-mark.ensures.within (length x.sig))
