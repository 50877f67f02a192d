-- The value may be lifted under all binders that are around a place in the reaction.
use Rattle.std.proofs.Common.{arith}
use Rattle.ipdl_term.proofs.FittingLemmas.{LiftFitsInExpression-greatest}
use Rattle.ipdl_term.specs.Views.{expression_of}
use Rattle.ipdl_norm.proofs.change.+put.Goals as goal

pub put_in_expr-requires : goal.put_in_expr-requires
put_in_expr-requires t c = LiftFitsInExpression-greatest (expression_of c.args.value.now) 0 c.args.depth (omega arith)

pub put_in_expr-requires-in-Cond : goal.put_in_expr-requires-in-Cond
put_in_expr-requires-in-Cond t c = LiftFitsInExpression-greatest (expression_of c.args.value.now) 0 c.args.depth (omega arith)
