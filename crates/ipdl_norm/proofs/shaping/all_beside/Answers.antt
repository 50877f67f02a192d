-- The last assignment that is left goes in front of what is made.
use Rattle.std.proofs.Common.{rules, ◌≡◌, ◌∙◌, []}
use Rattle.std.specs.Prelude.{option_map}
use Rattle.ipdl_norm.proofs.Gathering.{front_step, front_end}
use Rattle.ipdl_term.specs.Views.{protocol_of}
use Rattle.ipdl_norm.proofs.shaping.all_beside.Goals as goal

pub loop-channel-preserved : goal.loop-channel-preserved
loop-channel-preserved c =
    front_step c.loop-channel.items.items c.pop.new.self.items (c.in-Some.channel, c.in-Some.reaction) (option_map protocol_of c.loop-channel.made) (protocol_of c.in_ok-beside.field-0) c.in-Some.ensures.items c.in_ok-beside.ensures ∙
    c.loop-channel.invariant

pub returns : goal.returns
returns c =
    let none : c.loop-channel.items.items ≡ [] = search rules in
    rw c.unwrap_or.ensures (front_end c.args.items.items c.loop-channel.items.items c.loop-channel.made none c.loop-channel.invariant)
