use Rattle.ipdl_rules_p.proofs.SilentParts.{alike_diverge}
use Rattle.ipdl_rules_p.proofs.communication.diverge_is_alike.Goals as goal

pub returns : goal.returns
returns c = alike_diverge
