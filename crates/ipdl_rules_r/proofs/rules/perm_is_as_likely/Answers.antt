use Rattle.ipdl_rules_r.proofs.Permuting.{perm_is_as_likely}
use Rattle.ipdl_rules_r.proofs.rules.perm_is_as_likely.Goals as goal

pub returns : goal.returns
returns c = perm_is_as_likely
