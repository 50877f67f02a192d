use Rattle.std.proofs.Common.{[], reverse}
use Rattle.ipdl_term.specs.Typing.{HasWidth}
use Rattle.ipdl_term.specs.Views.{expression_of}
use Rattle.ipdl_typing.specs.Checks.{expression_width, expression_failures}
use Rattle.ipdl_typing.specs.Signatures.{signature_of}
use Rattle.ipdl_typing.proofs.Exactly.{HasWidth-clean}
use Rattle.ipdl_typing.proofs.First.{OnOk-width, IfErr-width, IfOk-width}
use Rattle.ipdl_typing.proofs.expressions.check_expr.Goals as goal

pub returns-clause-typed : goal.returns-clause-typed
returns-clause-typed c =
    let sig = signature_of c.args.sig.now in
    let widths = reverse c.args.widths.now in
    let e = expression_of c.args.term.now in
    IfOk-width c.expr_width.result (expression_width sig widths e) (expression_failures sig widths [] e) (HasWidth sig widths e) c.expr_width.ensures (HasWidth-clean sig widths [] e)

pub returns-clause-clean : goal.returns-clause-clean
returns-clause-clean c = OnOk-width c.expr_width.result _ _ c.expr_width.ensures

pub returns-clause-first : goal.returns-clause-first
returns-clause-first c = IfErr-width c.expr_width.result _ _ c.expr_width.ensures
