use Rattle.ipdl_rules_p.proofs.RuleLaws.{comm_is_equal}
use Rattle.ipdl_rules_p.proofs.rules.comm_is_equal.Goals as goal

pub returns : goal.returns
returns c = comm_is_equal
