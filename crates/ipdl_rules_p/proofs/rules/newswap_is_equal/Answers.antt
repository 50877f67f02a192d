use Rattle.ipdl_rules_p.proofs.RuleLaws.{newswap_is_equal}
use Rattle.ipdl_rules_p.proofs.rules.newswap_is_equal.Goals as goal

pub returns : goal.returns
returns c = newswap_is_equal
