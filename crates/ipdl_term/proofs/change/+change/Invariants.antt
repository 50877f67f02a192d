use Rattle.std.proofs.Common.{◌+◌, ◌*◌}
use Rattle.ipdl_term.proofs.ChangeSizes.{carried_size}
use Rattle.ipdl_term.proofs.change.+change.Given as goal

abbrev pub decreases-changed_expr : goal.decreases-changed_expr
decreases-changed_expr l = 2 * goal.size-changed_expr l + carried_size l.change.now + 1

abbrev pub decreases-changed_expr_box : goal.decreases-changed_expr_box
decreases-changed_expr_box l = 2 * goal.size-changed_expr_box l + carried_size l.change.now + 2

abbrev pub decreases-changed_var : goal.decreases-changed_var
decreases-changed_var l = carried_size l.change.now
