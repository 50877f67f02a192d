use Rattle.ipdl_rules_p.proofs.Grouping.{alike_assocr}
use Rattle.ipdl_rules_p.proofs.rules.assocr_is_alike.Goals as goal

pub returns : goal.returns
returns c = alike_assocr
