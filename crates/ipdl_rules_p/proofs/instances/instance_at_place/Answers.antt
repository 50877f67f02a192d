use Rattle.ipdl_rules_p.proofs.InstanceMeanings.{instance_at_place}
use Rattle.ipdl_rules_p.proofs.instances.instance_at_place.Goals as goal

pub returns : goal.returns
returns c = λ sig scope written p q place rule left right typed at with keeps instance.
    instance_at_place sig scope written p q place rule left right typed at with keeps instance
