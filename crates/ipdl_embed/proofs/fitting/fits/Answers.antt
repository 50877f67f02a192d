use Rattle.std.proofs.Common.{arith, ◌≡◌, ◌+◌, ◌++◌, length, Some, None, sym, ap, ◌∙◌}
use Rattle.ipdl_term.specs.Renaming.{renaming_of}
use Rattle.ipdl_term.specs.Typing.{scope_of}
use Rattle.ipdl_embed.specs.Fitting.{first_unfit}
use Rattle.ipdl_embed.proofs.SeenPorts.{unfit_left, unfit_right, visible_where_fit}
use Rattle.ipdl_embed.proofs.fitting.fits.Goals as goal

pub returns-in-Some-clause-err : goal.returns-in-Some-clause-err
returns-in-Some-clause-err c =
    let i = c.args.interface.now in
    let scope = scope_of c.args.visible.now in
    let f = renaming_of c.args.renaming.now in
    unfit_left scope f i.inputs i.outputs c.in-Some.place (c.in-Some.ensures.value ∙ ap (first_unfit scope f) c.as_slice-inputs.ensures)

pub overflow_add-result : goal.overflow_add-result
overflow_add-result c =
    omega (arith, c.as_slice-inputs.type_inv.1, c.as_slice.type_inv.1, c.in-Some-first_unfit.ensures.within)

pub returns-in-Some-first_unfit-clause-err : goal.returns-in-Some-first_unfit-clause-err
returns-in-Some-first_unfit-clause-err c =
    let i = c.args.interface.now in
    let scope = scope_of c.args.visible.now in
    let f = renaming_of c.args.renaming.now in
    unfit_right scope f i.inputs i.outputs (Some c.in-Some-first_unfit.place) (c.in_default.ensures.value ∙ ap (first_unfit scope f) c.as_slice-inputs.ensures) (c.in-Some-first_unfit.ensures.value ∙ ap (first_unfit scope f) c.as_slice.ensures)
    ∙ ap (λ ports. Some (length ports + c.in-Some-first_unfit.place)) (sym c.as_slice-inputs.ensures)

-- all ports fit
all_fit : (c : goal.In-None) → first_unfit (scope_of c.args.visible.now) (renaming_of c.args.renaming.now) (c.args.interface.now.inputs ++ c.args.interface.now.outputs) ≡ None
all_fit c =
    let i = c.args.interface.now in
    let scope = scope_of c.args.visible.now in
    let f = renaming_of c.args.renaming.now in
    unfit_right scope f i.inputs i.outputs None (c.in_default.ensures.value ∙ ap (first_unfit scope f) c.as_slice-inputs.ensures) (c.in-None.ensures.value ∙ ap (first_unfit scope f) c.as_slice.ensures)

pub returns-in-None-clause-ok : goal.returns-in-None-clause-ok
returns-in-None-clause-ok c = all_fit c

pub returns-in-None-clause-visible : goal.returns-in-None-clause-visible
returns-in-None-clause-visible c =
    visible_where_fit (scope_of c.args.visible.now) (renaming_of c.args.renaming.now) (c.args.interface.now.inputs ++ c.args.interface.now.outputs) (all_fit c)
