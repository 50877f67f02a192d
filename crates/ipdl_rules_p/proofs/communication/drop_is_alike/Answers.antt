use Rattle.ipdl_rules_p.proofs.IdleReads.{alike_drop}
use Rattle.ipdl_rules_p.proofs.communication.drop_is_alike.Goals as goal

pub returns : goal.returns
returns c = λ J scope a b w r s differ unused within. alike_drop J r s unused within scope a b w differ
