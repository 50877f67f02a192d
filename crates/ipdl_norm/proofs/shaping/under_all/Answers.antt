-- The last channel that is left is hidden around what is made.
use Rattle.std.proofs.Common.{◌≡◌, ◌∙◌, refl}
use Rattle.ipdl_norm.proofs.Gathering.{hiding_step}
use Rattle.ipdl_term.specs.Terms.{hiding}
use Rattle.ipdl_term.specs.Views.{protocol_of}
use Rattle.ipdl_norm.proofs.shaping.under_all.Goals as goal

pub loop-channel-preserved : goal.loop-channel-preserved
loop-channel-preserved c =
    let held = c.in_ok-boxed.ensures in
    let same : c.loop-channel.made ≡ c.in_ok-boxed.field-0.value = cc in
    let made : hiding c.in_ok-copy.field-0 c.in-Some.width (protocol_of c.in_ok-boxed.field-0.value) ≡ hiding c.in-Some.channel.now c.in-Some.width (protocol_of c.loop-channel.made) = rw (c.in_ok-copy.ensures, same) refl in
    hiding_step c.loop-channel.items.items c.pop.new.self.items (c.in-Some.channel, c.in-Some.width) (protocol_of c.loop-channel.made) _ c.in-Some.ensures.items made ∙
    c.loop-channel.invariant
