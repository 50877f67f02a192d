use Rattle.ipdl_term.specs.Same.{same_expression-Decides}
use Rattle.ipdl_term.proofs.Deciding.{told}
use Rattle.ipdl_term.proofs.same.ExprPartialEq.eq.Goals as goal

pub returns-clause-same : goal.returns-clause-same
returns-clause-same c = told _ _ c.is_same_expr.ensures (same_expression-Decides _ _)
