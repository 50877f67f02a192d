use Rattle.ipdl_rules_r.proofs.TwoParts.{dropr_is_as_likely}
use Rattle.ipdl_rules_r.proofs.rules.dropr_is_as_likely.Goals as goal

pub returns : goal.returns
returns c = dropr_is_as_likely
