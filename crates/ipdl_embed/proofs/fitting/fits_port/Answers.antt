use Rattle.std.proofs.Common.{ap, ◌∙◌}
use Rattle.ipdl_term.specs.Typing.{scope_of}
use Rattle.ipdl_embed.specs.Fitting.{is_width}
use Rattle.ipdl_embed.proofs.SeenPorts.{name_there, name_kept}
use Rattle.ipdl_embed.proofs.fitting.fits_port.Goals as goal

pub returns-in-Some : goal.returns-in-Some
returns-in-Some c =
    let port = c.args.port.now in
    c.has.ensures ∙ ap (λ d. is_width (scope_of c.args.visible.now d) port.width) (name_there c.args.renaming.now port.name c.in-Some.name.now c.in-Some.ensures)

pub returns-in-None : goal.returns-in-None
returns-in-None c =
    let port = c.args.port.now in
    c.has-in-None.ensures ∙ ap (λ d. is_width (scope_of c.args.visible.now d) port.width) (name_kept c.args.renaming.now port.name c.in-None.ensures)
