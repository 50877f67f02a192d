use Rattle.std.proofs.Common.{◌∙◌, ap, if◌then◌else◌, false}
use Rattle.ipdl_term.proofs.ChannelSets.{bytes_eq-same_channel}
use Rattle.ipdl_embed.proofs.NameSets.{a_name}
use Rattle.ipdl_embed.specs.Tables.{holds}
use Rattle.ipdl_embed.proofs.names.leave.Goals as goal

pub returns : goal.returns
returns c d =
    rw (c.if-not-added.false)
    (c.remove.ensures.updates.0 (a_name d) ∙ ap (λ b. if b then false else holds c.args.names.now d) (bytes_eq-same_channel c.args.name.now d))
