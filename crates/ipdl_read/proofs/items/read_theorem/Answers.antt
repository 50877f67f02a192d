use Rattle.std.proofs.Common.{length, map, ap, ◌∙◌}
use Rattle.std.proofs.lemmas.Result.{err_from_is_err_and}
use Rattle.ipdl_term.specs.Steps.{step_of}
use Rattle.ipdl_read.specs.Earlier.{earlier_of}
use Rattle.ipdl_read_terms.proofs.Lists.{five_items}
use Rattle.ipdl_read.proofs.ReadItems.{theorem_first_named, theorem_first_lefts, theorem_first_rights, theorem_none, theorem_spelled}
use Rattle.ipdl_read.proofs.items.read_theorem.Goals as goal

pub returns-in_err-name-clause-first : goal.returns-in_err-name-clause-first
returns-in_err-name-clause-first c =
    let is = five_items c.args.parts.now c.name-item.result c.left-item.result c.right-item.result c.lefts-item.result c.rights-item.result c.in-len5.len_at_least c.in-len5.len_below c.name-item.is c.left-item.is c.right-item.is c.lefts-item.is c.rights-item.is in
    let p = err_from_is_err_and c.from_residual.result c.from_residual.ensures.1 in
    rw (p.1, p.2)
    (theorem_first_named c.in_err-name.field-0.0 (earlier_of c.args.earlier.now) c.args.list.0 c.args.parts.now c.name-item.result c.left-item.result c.right-item.result c.lefts-item.result c.rights-item.result is c.in_err-name.ensures.first)

pub returns-in_err-left_steps-clause-first : goal.returns-in_err-left_steps-clause-first
returns-in_err-left_steps-clause-first c =
    let is = five_items c.args.parts.now c.name-item.result c.left-item.result c.right-item.result c.lefts-item.result c.rights-item.result c.in-len5.len_at_least c.in-len5.len_below c.name-item.is c.left-item.is c.right-item.is c.lefts-item.is c.rights-item.is in
    let p = err_from_is_err_and c.from_residual-in_err-left_steps.result c.from_residual-in_err-left_steps.ensures.1 in
    rw (p.1, p.2)
    (theorem_first_lefts c.in_err-left_steps.field-0.0 (earlier_of c.args.earlier.now) c.args.list.0 c.args.parts.now c.name-item.result c.left-item.result c.right-item.result c.lefts-item.result c.rights-item.result is c.in_ok-name.ensures.clean c.in_err-left_steps.ensures.first)

pub returns-in_err-right_steps-clause-first : goal.returns-in_err-right_steps-clause-first
returns-in_err-right_steps-clause-first c =
    let is = five_items c.args.parts.now c.name-item.result c.left-item.result c.right-item.result c.lefts-item.result c.rights-item.result c.in-len5.len_at_least c.in-len5.len_below c.name-item.is c.left-item.is c.right-item.is c.lefts-item.is c.rights-item.is in
    let p = err_from_is_err_and c.from_residual-in_err-right_steps.result c.from_residual-in_err-right_steps.ensures.1 in
    rw (p.1, p.2)
    (theorem_first_rights c.in_err-right_steps.field-0.0 (earlier_of c.args.earlier.now) c.args.list.0 c.args.parts.now c.name-item.result c.left-item.result c.right-item.result c.lefts-item.result c.rights-item.result is c.in_ok-name.ensures.clean c.in_ok-left_steps.ensures.clean (length c.as_slice-before.result.now) (ap length c.as_slice-before.ensures ∙ c.in_ok-left_steps.ensures.count) c.in_err-right_steps.ensures.first)

pub returns-clause-spelled : goal.returns-clause-spelled
returns-clause-spelled c head =
    let is = five_items c.args.parts.now c.name-item.result c.left-item.result c.right-item.result c.lefts-item.result c.rights-item.result c.in-len5.len_at_least c.in-len5.len_below c.name-item.is c.left-item.is c.right-item.is c.lefts-item.is c.rights-item.is in
    theorem_spelled (earlier_of c.args.earlier.now) c.args.list.0 head c.args.parts.now c.name-item.result c.left-item.result c.right-item.result c.lefts-item.result c.rights-item.result _ _ _ (map step_of c.in_ok-left_steps.left_steps) (map step_of c.in_ok-right_steps.right_steps) is c.in_ok-name.ensures.spelled c.in_ok-left_steps.ensures.spelled c.in_ok-right_steps.ensures.spelled

pub returns-clause-clean : goal.returns-clause-clean
returns-clause-clean c =
    let is = five_items c.args.parts.now c.name-item.result c.left-item.result c.right-item.result c.lefts-item.result c.rights-item.result c.in-len5.len_at_least c.in-len5.len_below c.name-item.is c.left-item.is c.right-item.is c.lefts-item.is c.rights-item.is in
    theorem_none (earlier_of c.args.earlier.now) c.args.list.0 c.args.parts.now c.name-item.result c.left-item.result c.right-item.result c.lefts-item.result c.rights-item.result is c.in_ok-name.ensures.clean c.in_ok-left_steps.ensures.clean (length c.as_slice-before.result.now) (ap length c.as_slice-before.ensures ∙ c.in_ok-left_steps.ensures.count) c.in_ok-right_steps.ensures.clean
