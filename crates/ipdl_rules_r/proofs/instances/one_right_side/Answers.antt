use Rattle.ipdl_rules_r.proofs.InstanceLaws.{one_right_side}
use Rattle.ipdl_rules_r.proofs.instances.one_right_side.Goals as goal

pub returns : goal.returns
returns c = one_right_side
