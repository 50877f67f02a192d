use Rattle.std.proofs.Common.{sym, ◌∙◌, subst}
use Rattle.std.proofs.lemmas.Result.{err_from_is_err_and}
use Rattle.ipdl_script.proofs.PartTests.{lin_refusal}
use Rattle.ipdl_script.specs.Answers.{TellsRefusal}
use Rattle.ipdl_script.specs.TestGroups.{AnswersTest}
use Rattle.ipdl_term.specs.Views.{expression_of}
use Rattle.ipdl_script.proofs.tables.lin_side.Goals as goal

pub returns-in_err-check_nodes-clause-test : goal.returns-in_err-check_nodes-clause-test
returns-in_err-check_nodes-clause-test c =
    let p = err_from_is_err_and c.from_residual.result c.from_residual.ensures.1 in
    rw (p.1, p.2)
    (subst (TellsRefusal _) (sym (lin_refusal c.args.depth (expression_of c.args.e.now))) c.in_err-check_nodes.ensures)

pub returns-clause-test : goal.returns-clause-test
returns-clause-test c =
    subst (AnswersTest c.settled_part.result)
    (sym (lin_refusal c.args.depth (expression_of c.args.e.now) ∙ c.in_ok-check_nodes.ensures))
    c.settled_part.ensures.test
