use Rattle.ipdl_term.proofs.ChannelSets.{union_from_either, union_from_turned}
use Rattle.ipdl_term.proofs.names.Names.join.Goals as goal

pub returns-then-len : goal.returns-then-len
returns-then-len c = union_from_turned c.join_each.result c.args.self c.args.other c.join_each.ensures

pub returns-else-len : goal.returns-else-len
returns-else-len c = union_from_either c.join_each-else-len.result c.args.self c.args.other c.join_each-else-len.ensures
