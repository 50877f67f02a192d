use Rattle.ipdl_uses.proofs.Chains.{ends_equal_where_exact, ends_equal_where_true}
use Rattle.ipdl_uses.proofs.laws.ends_are_equal.Goals as goal

pub returns-clause-exact : goal.returns-clause-exact
returns-clause-exact c = λ sig assumed i. ends_equal_where_exact sig i assumed

pub returns-clause-counted : goal.returns-clause-counted
returns-clause-counted c = λ sig assumed i. ends_equal_where_true sig i assumed
