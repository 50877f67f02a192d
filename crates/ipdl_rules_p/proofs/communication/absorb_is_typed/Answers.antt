use Rattle.ipdl_rules_p.proofs.CommunicationTyping.{Typed-absorb}
use Rattle.ipdl_rules_p.proofs.communication.absorb_is_typed.Goals as goal

pub returns : goal.returns
returns c = Typed-absorb
