use Rattle.ipdl_script.proofs.Fits.{whole_has_room}
use Rattle.ipdl_script.specs.Views.{setting_of}
use Rattle.ipdl_term.specs.Views.{protocol_of}
use Rattle.ipdl_script.proofs.tables.surroundings.Goals as goal

pub focus-requires : goal.focus-requires
focus-requires c = whole_has_room (setting_of c.args.setting.now) (protocol_of c.args.before.now) c.requires
