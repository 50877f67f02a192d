use Rattle.ipdl_rules_p.proofs.Folding.{alike_fold}
use Rattle.ipdl_rules_p.proofs.communication.fold_is_alike.Goals as goal

pub returns : goal.returns
returns c = λ J scope o c w r k place differ at alone unread closed. alike_fold J scope o c w r differ unread closed k place at alone
