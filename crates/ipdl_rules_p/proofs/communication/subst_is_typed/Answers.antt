use Rattle.ipdl_rules_p.proofs.CommunicationTyping.{Typed-subst}
use Rattle.ipdl_rules_p.proofs.communication.subst_is_typed.Goals as goal

pub returns : goal.returns
returns c = Typed-subst
