use Rattle.ipdl_rules_p.proofs.Substituting.{alike_subst}
use Rattle.ipdl_rules_p.proofs.communication.subst_is_alike.Goals as goal

pub returns : goal.returns
returns c = λ J scope a b r k place differ at no_flip closed. alike_subst J scope a b r differ no_flip closed k place at
