use Rattle.ipdl_script.proofs.InstanceLaws.{instance_is_equal}
use Rattle.ipdl_script.proofs.instances.instance_is_equal.Goals as goal

pub returns : goal.returns
returns c = λ sig tables scope written p q place rule left right typed typed' at with inst. instance_is_equal sig scope written p q place tables rule left right typed typed' at with inst
