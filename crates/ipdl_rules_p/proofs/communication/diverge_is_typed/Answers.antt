use Rattle.ipdl_rules_p.proofs.CommunicationTyping.{Typed-diverge}
use Rattle.ipdl_rules_p.proofs.communication.diverge_is_typed.Goals as goal

pub returns : goal.returns
returns c = Typed-diverge
