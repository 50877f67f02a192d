use Rattle.ipdl_read.proofs.SeenNames.{keys_of-insert_new}
use Rattle.ipdl_read.proofs.seen.Seen.add.Goals as goal

pub returns-clause-ok : goal.returns-clause-ok
returns-clause-ok c =
    keys_of-insert_new c.self.inside.names c.insert.new.self.entries c.args.self.now c.args.name _ c.self.view_is c.requires c.in_ok-insert.ensures.entries
