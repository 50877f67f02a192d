use Rattle.std.proofs.Common.{ap, map}
use Rattle.ipdl_linear.specs.Entries.{entry_of}
use Rattle.ipdl_linear.proofs.Starting.{IsNumbering-start}
use Rattle.ipdl_linear.proofs.numbering.Numbering.start.Goals as goal

pub returns : goal.returns
returns c =
    IsNumbering-start _ c.number.new.self c.number-2.new.self c.number-3.new.self c.in_ok-number.field-0 c.in_ok-one.one c.in_ok-number-2.field-0 c.new-2.result.items c.in_ok-atoms.atoms.items
    (ap (map entry_of) c.new.ensures.empty) c.new-2.ensures.items c.in_ok-atoms.ensures.items c.in_ok-number.ensures c.in_ok-one.ensures c.in_ok-number-2.ensures
