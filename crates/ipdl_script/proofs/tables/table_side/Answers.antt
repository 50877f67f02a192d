use Rattle.std.proofs.Common.{sym, ◌∙◌, subst}
use Rattle.std.proofs.lemmas.Result.{err_from_is_err_and}
use Rattle.ipdl_script.proofs.PartTests.{table_refusal}
use Rattle.ipdl_script.proofs.Refusals.{told_later, none_told}
use Rattle.ipdl_script.specs.Answers.{TellsRefusal}
use Rattle.ipdl_script.specs.Steps.{around_place}
use Rattle.ipdl_script.specs.TestGroups.{AnswersTest}
use Rattle.ipdl_script.specs.Views.{setting_of}
use Rattle.ipdl_term.specs.Views.{expression_of, protocol_of}
use Rattle.ipdl_script.proofs.tables.table_side.Goals as goal

pub returns-in_err-check_nodes-clause-test : goal.returns-in_err-check_nodes-clause-test
returns-in_err-check_nodes-clause-test c =
    let there = around_place (setting_of c.args.setting.now) (protocol_of c.args.before.now) c.args.path.now in
    let p = err_from_is_err_and c.from_residual-in_err-check_nodes.result c.from_residual-in_err-check_nodes.ensures.1 in
    rw (p.1, p.2)
    (subst (TellsRefusal _) (sym (table_refusal there.conditions c.args.depth c.args.wanted (expression_of c.args.e.now)))
    (told_later _ _ _ c.in_ok-check_conditions.ensures c.in_err-check_nodes.ensures))

pub returns-clause-test : goal.returns-clause-test
returns-clause-test c =
    let there = around_place (setting_of c.args.setting.now) (protocol_of c.args.before.now) c.args.path.now in
    subst (AnswersTest c.settled_part.result)
    (sym (table_refusal there.conditions c.args.depth c.args.wanted (expression_of c.args.e.now) ∙ none_told _ _ c.in_ok-check_conditions.ensures c.in_ok-check_nodes.ensures))
    c.settled_part.ensures.test
