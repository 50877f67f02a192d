use Rattle.std.proofs.Common.{◌∙◌}
use Rattle.ipdl_embed.proofs.NameSets.{a_name, entered}
use Rattle.ipdl_embed.specs.Tables.{holds}
use Rattle.ipdl_embed.proofs.names.enter.Goals as goal

pub returns-clause-names : goal.returns-clause-names
returns-clause-names c d =
    c.in_ok-insert.ensures.updates.0 (a_name d) ∙ entered c.args.name.now d (holds c.args.names.now d)
