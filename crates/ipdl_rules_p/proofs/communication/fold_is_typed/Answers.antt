use Rattle.ipdl_rules_p.proofs.CommunicationTyping.{Typed-fold}
use Rattle.ipdl_rules_p.proofs.communication.fold_is_typed.Goals as goal

pub returns : goal.returns
returns c = Typed-fold
