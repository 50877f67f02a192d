use Rattle.ipdl_rules_p.proofs.RuleLaws.{assocr_is_equal}
use Rattle.ipdl_rules_p.proofs.rules.assocr_is_equal.Goals as goal

pub returns : goal.returns
returns c = assocr_is_equal
