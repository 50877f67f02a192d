use Rattle.ipdl_rules_r.proofs.Masking.{mask_is_as_likely}
use Rattle.ipdl_rules_r.proofs.rules.mask_is_as_likely.Goals as goal

pub returns : goal.returns
returns c = mask_is_as_likely
