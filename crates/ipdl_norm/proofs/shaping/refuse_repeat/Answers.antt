-- A name that was not seen is seen from there on.
use Rattle.std.proofs.Common.{rules, ◌≡◌, ◌<◌, ◌∷◌, false, get_or, length}
use Rattle.ipdl_norm.proofs.Gathering.{first_repeated-next}
use Rattle.ipdl_norm.specs.Gathered.{hidden_of}
use Rattle.ipdl_norm.specs.Repeated.{first_repeated}
use Rattle.ipdl_norm.specs.Shaped.{names_of}
use Rattle.ipdl_term.specs.Channels.{has, SameSet}
use Rattle.ipdl_norm.proofs.shaping.refuse_repeat.Goals as goal

pub loop-channel-preserved : goal.loop-channel-preserved
loop-channel-preserved c =
    let items = c.args.hidden.now in
    let i = c.loop-channel.channel-index in
    let x = c.channel-item.result in
    let within : i < length items = search rules in
    let at : get_or items i x ≡ x = search rules in
    let new : has c.loop-channel.seen x.0.now ≡ false = search rules in
    let same : SameSet c.add.new.self (x.0.now ∷ c.loop-channel.seen) = rw (← c.in_ok-copy-2.ensures) c.in_ok-add.ensures.ok in
    first_repeated-next c.loop-channel.seen c.add.new.self items i x (first_repeated c.args.seen (names_of (hidden_of items))) within at new
    same c.loop-channel.invariant
