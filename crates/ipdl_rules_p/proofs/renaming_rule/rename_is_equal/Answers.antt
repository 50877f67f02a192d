use Rattle.ipdl_rules_p.proofs.RenameLaws.{rename_is_equal}
use Rattle.ipdl_rules_p.proofs.renaming_rule.rename_is_equal.Goals as goal

pub returns : goal.returns
returns c = rename_is_equal
