use Rattle.std.proofs.Common.{rules, ◌≡◌, ◌+◌, ◌<◌, take, length, get_or}
use Rattle.ipdl_term.specs.Typing.{port_names}
use Rattle.ipdl_embed.specs.Tables.{holds}
use Rattle.ipdl_embed.proofs.NameSets.{has-more, port_names-more}
use Rattle.ipdl_embed.proofs.names.enter_ports.Goals as goal

pub loop-port-preserved : goal.loop-port-preserved
loop-port-preserved c d =
    let ports = c.args.ports.now in
    let i = c.loop-port.port-index in
    let x = c.port-item.result in
    let within : i < length ports = search rules in
    let at : get_or ports i x ≡ x = search rules in
    has-more (port_names (take i ports)) (port_names (take (i + 1) ports)) x.name d (holds c.loop-port.names d) (holds c.enter.new.names d) (holds c.args.names.now d) (c.in_ok-enter.ensures.names d) (c.loop-port.invariant d) (port_names-more ports i x within at)
