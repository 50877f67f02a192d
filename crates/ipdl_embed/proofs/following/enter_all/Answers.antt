use Rattle.std.proofs.Common.{rules, ◌≡◌, ◌+◌, ◌<◌, take, length, get_or}
use Rattle.ipdl_embed.specs.Following.{names_of}
use Rattle.ipdl_embed.specs.Tables.{holds}
use Rattle.ipdl_embed.proofs.Followed.{names_of-more}
use Rattle.ipdl_embed.proofs.NameSets.{has-more}
use Rattle.ipdl_embed.proofs.following.enter_all.Goals as goal

pub loop-name-preserved : goal.loop-name-preserved
loop-name-preserved c d =
    let names = c.args.names.now in
    let i = c.loop-name.name-index in
    let x = c.name-item.result in
    let within : i < length names = search rules in
    let at : get_or names i x ≡ x = search rules in
    has-more (names_of (take i names)) (names_of (take (i + 1) names)) x.now d (holds c.loop-name.set d) (holds c.enter.new.names d) (holds c.args.set.now d) (c.in_ok-enter.ensures.names d) (c.loop-name.invariant d) (names_of-more names i x within at)
