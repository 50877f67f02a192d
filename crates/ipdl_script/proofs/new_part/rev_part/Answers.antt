use Rattle.std.proofs.Common.{◌≡◌, Result, Ok, ap, sym, ◌∙◌, subst}
use Rattle.std.proofs.lemmas.Result.{err_from_is_err_and}
use Rattle.ipdl_cursor.specs.Views.{part_of}
use Rattle.ipdl_script.proofs.PartTests.{back_told, back_changed}
use Rattle.ipdl_script.proofs.PartRoom.{written_has_room}
use Rattle.ipdl_script.specs.Steps.{around_place}
use Rattle.ipdl_script.specs.TestGroups.{HasRoomFor, IsChanged}
use Rattle.ipdl_script.specs.Views.{setting_of}
use Rattle.ipdl_script.specs.declared.fault.StepFault.{StepFault}
use Rattle.ipdl_term.specs.Steps.{rev, rule_of}
use Rattle.ipdl_term.specs.Variables.{settled_term}
use Rattle.ipdl_term.specs.Views.{protocol_of, term_of}
use Rattle.ipdl_script.proofs.new_part.rev_part.Goals as goal

pub check_written-requires-clause-room : goal.check_written-requires-clause-room
check_written-requires-clause-room c =
    let depth = c.in_ok-spot.spot.depth in
    let written : term_of c.deref.result.now ≡ settled_term depth (term_of c.args.term.now) = ap term_of c.deref.ensures ∙ c.in_ok-written.ensures.value in
    subst (HasRoomFor depth (rule_of c.args.rule.now)) (sym written)
    (written_has_room c.args.path.now (rule_of c.args.rule.now) depth c.in_ok-spot.ensures.few (term_of c.args.term.now) c.requires.fits)

pub returns-in_err-check_written-clause-test : goal.returns-in_err-check_written-clause-test
returns-in_err-check_written-clause-test c =
    let x = setting_of c.args.setting.now in
    let before = protocol_of c.args.before.now in
    let written : term_of c.deref.result.now ≡ settled_term c.in_ok-spot.spot.depth (term_of c.args.term.now) = ap term_of c.deref.ensures ∙ c.in_ok-written.ensures.value in
    let p = err_from_is_err_and c.from_residual-in_err-check_written.result c.from_residual-in_err-check_written.ensures.1 in
    back_told x before c.args.path.now (rule_of c.args.rule.now) (part_of c.in_ok-spot.spot.part) c.in_ok-spot.ensures.part (term_of c.args.term.now) c.in_ok-spot.spot.depth (term_of c.deref.result.now)
    c.in_ok-spot.ensures.depth written c.from_residual-in_err-check_written.result c.in_ok-check_arguments.ensures c.in_ok-written.ensures.test
    (rw (p.1, p.2) (c.in_err-check_written.ensures.test (around_place x before c.args.path.now)))

pub returns-clause-test : goal.returns-clause-test
returns-clause-test c =
    let passed : Result (Unit {0}) StepFault = Ok tt in
    let x = setting_of c.args.setting.now in
    let before = protocol_of c.args.before.now in
    let written : term_of c.deref.result.now ≡ settled_term c.in_ok-spot.spot.depth (term_of c.args.term.now) = ap term_of c.deref.ensures ∙ c.in_ok-written.ensures.value in
    back_told x before c.args.path.now (rule_of c.args.rule.now) (part_of c.in_ok-spot.spot.part) c.in_ok-spot.ensures.part (term_of c.args.term.now) c.in_ok-spot.spot.depth (term_of c.deref.result.now)
    c.in_ok-spot.ensures.depth written passed c.in_ok-check_arguments.ensures c.in_ok-written.ensures.test
    (c.in_ok-check_written.ensures.test (around_place x before c.args.path.now))

pub returns-clause-changed : goal.returns-clause-changed
returns-clause-changed c =
    let x = setting_of c.args.setting.now in
    let before = protocol_of c.args.before.now in
    let step = rev c.args.path.now (rule_of c.args.rule.now) (term_of c.args.term.now) in
    let written : term_of c.deref.result.now ≡ settled_term c.in_ok-spot.spot.depth (term_of c.args.term.now) = ap term_of c.deref.ensures ∙ c.in_ok-written.ensures.value in
    subst (IsChanged x before step) (ap term_of c.deref.ensures)
    (back_changed x before c.args.path.now (rule_of c.args.rule.now) (part_of c.in_ok-spot.spot.part) c.in_ok-spot.ensures.part (term_of c.args.term.now) c.in_ok-spot.spot.depth (term_of c.deref.result.now)
    c.in_ok-spot.ensures.depth written (c.in_ok-check_written.ensures.value (around_place x before c.args.path.now)))
