use Rattle.ipdl_laws.proofs.Congruence.{alike_comm}
use Rattle.ipdl_rules_p.proofs.rules.comm_is_alike.Goals as goal

pub returns : goal.returns
returns c = alike_comm
