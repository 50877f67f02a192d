use Rattle.std.proofs.Common.{◌∙◌}
use Rattle.ipdl_term.proofs.ChannelSets.{moved_one}
use Rattle.ipdl_term.proofs.names.Names.join_each.Goals as goal

pub loop-name-preserved : goal.loop-name-preserved
loop-name-preserved c = λ d.
    moved_one c.loop-name.all c.add.new.self c.loop-name.rest.items c.pop.new.self.items c.in-Some.name d c.in-Some.ensures.items c.in_ok-add.ensures.ok
    ∙ c.loop-name.invariant d
