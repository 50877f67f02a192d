use Rattle.ipdl_rules_p.proofs.RenameLaws.{alike_rename}
use Rattle.ipdl_rules_p.proofs.renaming_rule.rename_is_alike.Goals as goal

pub returns : goal.returns
returns c = alike_rename
