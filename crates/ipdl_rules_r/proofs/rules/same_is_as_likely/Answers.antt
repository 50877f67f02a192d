use Rattle.ipdl_rules_r.proofs.SameOutcomes.{same_is_as_likely}
use Rattle.ipdl_rules_r.proofs.rules.same_is_as_likely.Goals as goal

pub returns : goal.returns
returns c = same_is_as_likely
