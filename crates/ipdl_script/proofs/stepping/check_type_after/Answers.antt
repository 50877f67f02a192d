use Rattle.ipdl_script.proofs.StepTests.{type_passes}
use Rattle.ipdl_script.specs.Views.{setting_of}
use Rattle.ipdl_term.specs.Views.{protocol_of}
use Rattle.ipdl_script.proofs.stepping.check_type_after.Goals as goal

pub returns-then-step_keeps_type-clause-test : goal.returns-then-step_keeps_type-clause-test
returns-then-step_keeps_type-clause-test c =
    type_passes (setting_of c.args.setting.now) (protocol_of c.args.after.now) (c.requires (c.step_keeps_type.ensures c.if-step_keeps_type.true))
