use Rattle.ipdl_script.proofs.StepParts.{kept_is_typed}
use Rattle.ipdl_script.specs.Views.{setting_of}
use Rattle.ipdl_term.specs.Steps.{step_of}
use Rattle.ipdl_term.specs.Views.{protocol_of}
use Rattle.ipdl_script.proofs.stepping.check_after.Goals as goal

pub check_whole-requires : goal.check_whole-requires
check_whole-requires c =
    kept_is_typed (setting_of c.args.setting.now) (protocol_of c.args.before.now) (step_of c.args.step.now) (protocol_of c.args.after.now) c.requires.whole.typed c.requires.passed c.requires.after
