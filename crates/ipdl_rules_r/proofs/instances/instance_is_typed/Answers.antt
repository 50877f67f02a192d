use Rattle.ipdl_rules_r.proofs.RuleTyping.{instance_is_typed}
use Rattle.ipdl_rules_r.proofs.instances.instance_is_typed.Goals as goal

pub returns : goal.returns
returns c = instance_is_typed
