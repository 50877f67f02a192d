use Rattle.ipdl_script.proofs.Fits.{whole_has_room}
use Rattle.ipdl_script.proofs.UseTests.{scope_there}
use Rattle.ipdl_script.specs.Views.{setting_of}
use Rattle.ipdl_term.specs.Views.{protocol_of}
use Rattle.ipdl_script.proofs.using.found_at.Goals as goal

pub focus-requires : goal.focus-requires
focus-requires c = whole_has_room (setting_of c.args.setting.now) (protocol_of c.args.before.now) c.requires

pub returns-in-Ok-clause-scope : goal.returns-in-Ok-clause-scope
returns-in-Ok-clause-scope c =
    scope_there (setting_of c.args.setting.now) (protocol_of c.args.before.now) c.args.path.now c.in-Ok.found.scope c.in-Ok.ensures.scope
