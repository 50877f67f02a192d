use Rattle.std.proofs.Common.{length, map, reverse, Some, ap, ◌∙◌, arith}
use Rattle.ipdl_cursor.specs.Views.{part_of}
use Rattle.ipdl_script.proofs.Fits.{few_around, depth_is}
use Rattle.ipdl_script.proofs.TableTruth.{old_fits, new_fits, tests_fit, truth_told}
use Rattle.ipdl_script.specs.Views.{setting_of}
use Rattle.ipdl_term.specs.Surroundings.{condition_of}
use Rattle.ipdl_term.specs.Views.{expression_of, protocol_of}
use Rattle.ipdl_script.proofs.truth.check_table.Goals as goal

pub check_same-requires-clause-few : goal.check_same-requires-clause-few
check_same-requires-clause-few c =
    let few = few_around (setting_of c.args.setting.now) (protocol_of c.args.before.now) c.args.path.now c.requires.whole in
    let depth = depth_is c.in_ok-found.found.widths _ c.in_ok-found.ensures.widths in
    omega (arith, few, depth)

pub check_same-requires-clause-old : goal.check_same-requires-clause-old
check_same-requires-clause-old c =
    old_fits (setting_of c.args.setting.now) (protocol_of c.args.before.now) c.args.path.now c.args.k (expression_of c.args.e.now) (expression_of c.in-E.old.now) (c.in_ok-found.ensures.part ∙ ap (λ part. Some (part_of part)) c.in-E.is)
    (reverse c.in_ok-found.found.widths) (map condition_of c.in_ok-found.found.conditions) (length c.in_ok-found.found.widths) c.in_ok-found.ensures.widths c.in_ok-found.ensures.conditions (depth_is c.in_ok-found.found.widths _ c.in_ok-found.ensures.widths)
    c.requires.whole

pub check_same-requires-clause-new : goal.check_same-requires-clause-new
check_same-requires-clause-new c =
    new_fits (setting_of c.args.setting.now) (protocol_of c.args.before.now) c.args.path.now c.args.k (expression_of c.args.e.now) (expression_of c.in-E.old.now) (c.in_ok-found.ensures.part ∙ ap (λ part. Some (part_of part)) c.in-E.is)
    (reverse c.in_ok-found.found.widths) (map condition_of c.in_ok-found.found.conditions) (length c.in_ok-found.found.widths) c.in_ok-found.ensures.widths c.in_ok-found.ensures.conditions (depth_is c.in_ok-found.found.widths _ c.in_ok-found.ensures.widths)
    c.requires.passed c.requires.typed

pub check_same-requires-clause-tests : goal.check_same-requires-clause-tests
check_same-requires-clause-tests c =
    tests_fit (setting_of c.args.setting.now) (protocol_of c.args.before.now) c.args.path.now c.args.k (expression_of c.args.e.now) (expression_of c.in-E.old.now) (c.in_ok-found.ensures.part ∙ ap (λ part. Some (part_of part)) c.in-E.is)
    (reverse c.in_ok-found.found.widths) (map condition_of c.in_ok-found.found.conditions) (length c.in_ok-found.found.widths) c.in_ok-found.ensures.widths c.in_ok-found.ensures.conditions (depth_is c.in_ok-found.found.widths _ c.in_ok-found.ensures.widths)
    c.requires.whole

pub returns-in-E : goal.returns-in-E
returns-in-E c =
    truth_told (setting_of c.args.setting.now) (protocol_of c.args.before.now) c.args.path.now c.args.k (expression_of c.args.e.now) (expression_of c.in-E.old.now) (c.in_ok-found.ensures.part ∙ ap (λ part. Some (part_of part)) c.in-E.is)
    (reverse c.in_ok-found.found.widths) (map condition_of c.in_ok-found.found.conditions) (length c.in_ok-found.found.widths) c.in_ok-found.ensures.widths c.in_ok-found.ensures.conditions (depth_is c.in_ok-found.found.widths _ c.in_ok-found.ensures.widths)
    c.check_same.result c.requires.passed c.check_same.ensures
