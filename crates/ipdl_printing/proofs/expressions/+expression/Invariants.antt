use Rattle.std.proofs.Common.{◌+◌, ◌*◌}
use Rattle.ipdl_term.specs.Sizes.{expression_nodes}
use Rattle.ipdl_term.specs.Views.{expression_of}
use Rattle.ipdl_printing.proofs.expressions.+expression.Given as goal

abbrev pub decreases-push_expr : goal.decreases-push_expr
decreases-push_expr l = 3 * expression_nodes (expression_of l.term.now)

abbrev pub decreases-push_binary : goal.decreases-push_binary
decreases-push_binary l =
    3 * expression_nodes (expression_of l.first.now) + 3 * expression_nodes (expression_of l.second.now) + 2

abbrev pub decreases-push_expr_part : goal.decreases-push_expr_part
decreases-push_expr_part l = 3 * expression_nodes (expression_of l.term.now) + 1
