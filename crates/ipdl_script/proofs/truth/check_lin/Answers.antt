use Rattle.std.proofs.Common.{Some, length, map, reverse, ap, ◌∙◌, arith}
use Rattle.ipdl_cursor.specs.Views.{part_of}
use Rattle.ipdl_script.proofs.Fits.{few_around, depth_is}
use Rattle.ipdl_script.proofs.FormTruth.{old_fits, new_fits, forms_told}
use Rattle.ipdl_script.specs.Views.{setting_of}
use Rattle.ipdl_term.specs.Views.{expression_of, protocol_of}
use Rattle.ipdl_script.proofs.truth.check_lin.Goals as goal

pub check_alike-requires-clause-few : goal.check_alike-requires-clause-few
check_alike-requires-clause-few c =
    let few = few_around (setting_of c.args.setting.now) (protocol_of c.args.before.now) c.args.path.now c.requires.whole in
    let depth = depth_is c.in_ok-found.found.widths _ c.in_ok-found.ensures.widths in
    omega (arith, few, depth)

pub check_alike-requires-clause-old : goal.check_alike-requires-clause-old
check_alike-requires-clause-old c =
    old_fits (setting_of c.args.setting.now) (protocol_of c.args.before.now) c.args.path.now (expression_of c.args.e.now) (expression_of c.in-E.old.now) (c.in_ok-found.ensures.part ∙ ap (λ part. Some (part_of part)) c.in-E.is)
    (reverse c.in_ok-found.found.widths) (length c.in_ok-found.found.widths) c.in_ok-found.ensures.widths (depth_is c.in_ok-found.found.widths _ c.in_ok-found.ensures.widths)
    c.requires.whole

pub check_alike-requires-clause-new : goal.check_alike-requires-clause-new
check_alike-requires-clause-new c =
    new_fits (setting_of c.args.setting.now) (protocol_of c.args.before.now) c.args.path.now (expression_of c.args.e.now) (expression_of c.in-E.old.now) (c.in_ok-found.ensures.part ∙ ap (λ part. Some (part_of part)) c.in-E.is)
    (reverse c.in_ok-found.found.widths) (length c.in_ok-found.found.widths) c.in_ok-found.ensures.widths (depth_is c.in_ok-found.found.widths _ c.in_ok-found.ensures.widths)
    c.requires.typed

pub returns-in-E : goal.returns-in-E
returns-in-E c =
    forms_told (setting_of c.args.setting.now) (protocol_of c.args.before.now) c.args.path.now (expression_of c.args.e.now) (expression_of c.in-E.old.now) (c.in_ok-found.ensures.part ∙ ap (λ part. Some (part_of part)) c.in-E.is)
    (reverse c.in_ok-found.found.widths) (length c.in_ok-found.found.widths) c.in_ok-found.ensures.widths (depth_is c.in_ok-found.found.widths _ c.in_ok-found.ensures.widths)
    c.check_alike.result c.check_alike.ensures
