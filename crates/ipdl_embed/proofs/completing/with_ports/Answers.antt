use Rattle.std.proofs.Common.{rules, ◌≡◌, ◌<◌, take, length, get_or}
use Rattle.std.proofs.lemmas.Result.{err_from_is_err_and}
use Rattle.ipdl_term.specs.Typing.{port_names}
use Rattle.ipdl_embed.specs.Tables.{renaming_in}
use Rattle.ipdl_embed.proofs.Completions.{named-keys, TellsClash-ports}
use Rattle.ipdl_embed.proofs.completing.with_ports.Goals as goal

pub with_channel-requires : goal.with_channel-requires
with_channel-requires c =
    named-keys (renaming_in c.args.given.now) c.args.start c.loop-port.renaming (port_names (take c.loop-port.port-index c.args.ports.now)) c.requires c.loop-port.invariant

pub returns-in_err-renaming-clause-clash : goal.returns-in_err-renaming-clause-clash
returns-in_err-renaming-clause-clash c =
    let ports = c.args.ports.now in
    let i = c.loop-port.port-index in
    let x = c.port-item.result in
    let within : i < length ports = search rules in
    let at : get_or ports i x ≡ x = search rules in
    let p = err_from_is_err_and c.from_residual.result c.from_residual.ensures.1 in
    rw (p.1, p.2) (TellsClash-ports (renaming_in c.args.given.now) c.args.start c.loop-port.renaming ports i x c.in_err-renaming.field-0.0 within at c.loop-port.invariant c.in_err-renaming.ensures.clash)
