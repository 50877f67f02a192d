use Rattle.ipdl_rules_p.proofs.SilentParts.{alike_absorb}
use Rattle.ipdl_rules_p.proofs.communication.absorb_is_alike.Goals as goal

pub returns : goal.returns
returns c = alike_absorb
