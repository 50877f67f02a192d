use Rattle.ipdl_rules_p.proofs.CommunicationTyping.{Typed-drop}
use Rattle.ipdl_rules_p.proofs.communication.drop_is_typed.Goals as goal

pub returns : goal.returns
returns c = Typed-drop
