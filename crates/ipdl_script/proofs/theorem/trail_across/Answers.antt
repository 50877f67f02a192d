use Rattle.std.proofs.Common.{length}
use Rattle.ipdl_script.specs.Views.{setting_of}
use Rattle.ipdl_script.proofs.theorem.trail_across.Goals as goal

pub returns-clause-within : goal.returns-clause-within
returns-clause-within c =
    c.in_ok-turned_back.ensures.within (length (setting_of c.args.setting.now).sig) c.requires.trail.within c.in_ok-rights.ensures.trail.within
