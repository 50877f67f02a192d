use Rattle.ipdl_cursor.specs.Views.{part_of}
use Rattle.ipdl_script.proofs.PartRoom.{part_has_room}
use Rattle.ipdl_script.specs.Views.{setting_of}
use Rattle.ipdl_term.specs.Steps.{rule_of}
use Rattle.ipdl_term.specs.Views.{protocol_of}
use Rattle.ipdl_script.proofs.new_part.plain_part.Goals as goal

pub right_side-requires-clause-room : goal.right_side-requires-clause-room
right_side-requires-clause-room c =
    let spot = c.in_ok-spot.ensures in
    part_has_room (setting_of c.args.setting.now) (protocol_of c.args.before.now) c.args.path.now (rule_of c.args.rule.now) c.in_ok-spot.spot.depth c.requires.whole c.requires.fits spot.depth spot.few (part_of c.in_ok-spot.spot.part) spot.part
