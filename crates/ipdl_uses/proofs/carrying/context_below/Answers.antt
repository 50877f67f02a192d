use Rattle.std.proofs.Common.{◌≡◌, sym, ap, ◌∙◌, subst}
use Rattle.ipdl_instances.proofs.WithinLaws.{IsContextWithin-renamed, IsContextWithin-nested}
use Rattle.ipdl_term.specs.Contexts.{nested}
use Rattle.ipdl_term.specs.Renaming.{renamed_context, renaming_of}
use Rattle.ipdl_term.specs.Views.{context_of}
use Rattle.ipdl_term.specs.Within.{IsContextWithin}
use Rattle.ipdl_uses.proofs.carrying.context_below.Goals as goal

pub returns-in-Ok-clause-within : goal.returns-in-Ok-clause-within
returns-in-Ok-clause-within c = λ symbols within around.
    let outer = context_of c.args.site.now.ctx.now in
    let f = renaming_of c.args.site.now.renaming.now in
    let C = context_of c.args.ctx.now in
    let is : context_of c.in_ok-whole-in-Ok.whole ≡ nested outer (renamed_context f C) = c.in_ok-whole-in-Ok.ensures ∙ ap (nested outer) c.in-Ok.ensures.value in
    subst (IsContextWithin symbols) (sym is) (IsContextWithin-nested symbols outer (renamed_context f C) around (IsContextWithin-renamed symbols f C within))
