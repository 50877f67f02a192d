use Rattle.ipdl_rules_r.proofs.TwoParts.{swap_is_as_likely}
use Rattle.ipdl_rules_r.proofs.rules.swap_is_as_likely.Goals as goal

pub returns : goal.returns
returns c = swap_is_as_likely
