use Rattle.ipdl_rules_r.proofs.Flips.{join_is_as_likely}
use Rattle.ipdl_rules_r.proofs.rules.join_is_as_likely.Goals as goal

pub returns : goal.returns
returns c = join_is_as_likely
