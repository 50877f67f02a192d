-- How deep the value is that a change carries, by which the walk of a term is shown to end.
use Rattle.std.proofs.Common.{ℕ, ◌+◌, ◌*◌}
use Rattle.ipdl_term.specs.declared.change.Change.{Change}
use Rattle.ipdl_term.specs.declared.change.Change.TheVariants.{Keep, Lift, Put, Settle}
use Rattle.ipdl_term.specs.declared.expression.Expr.{size-Expr}

-- so much that the value can be lifted at the variable that it stands for
abbrev pub carried_size : Change → ℕ
carried_size Keep = 0
carried_size (Lift by) = 0
carried_size (Put v) = 2 * size-Expr v.now + 2
carried_size Settle = 0
