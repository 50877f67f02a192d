use Rattle.ipdl_rules_p.proofs.IdleReads.{alike_subsume}
use Rattle.ipdl_rules_p.proofs.communication.subsume_is_alike.Goals as goal

pub returns : goal.returns
returns c = alike_subsume
