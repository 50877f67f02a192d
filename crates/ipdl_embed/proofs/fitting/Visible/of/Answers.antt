use Rattle.std.proofs.Common.{rules, ◌≡◌, ◌<◌, length, get_or}
use Rattle.ipdl_embed.specs.Tables.{seen_in}
use Rattle.ipdl_embed.proofs.NameSets.{a_name}
use Rattle.ipdl_embed.proofs.SeenPorts.{width_more}
use Rattle.ipdl_embed.proofs.fitting.Visible.of.Goals as goal

pub loop-port-preserved : goal.loop-port-preserved
loop-port-preserved c d =
    let ports = c.args.scope.now in
    let i = c.loop-port.port-index in
    let x = c.port-item.result in
    let within : i < length ports = search rules in
    let at : get_or ports i x ≡ x = search rules in
    width_more ports i x d (seen_in c.loop-port.widths d) (seen_in c.insert.new.self d) within at (c.loop-port.invariant d) (c.in_ok-insert.ensures.updates.0 (a_name d))
