use Rattle.ipdl_laws.proofs.Structure.{alike_newswap}
use Rattle.ipdl_rules_p.proofs.rules.newswap_is_alike.Goals as goal

pub returns : goal.returns
returns c = alike_newswap
