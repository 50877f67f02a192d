use Rattle.ipdl_rules_p.proofs.RenameLaws.{Typed-rename}
use Rattle.ipdl_rules_p.proofs.renaming_rule.rename_is_typed.Goals as goal

pub returns : goal.returns
returns c = Typed-rename
