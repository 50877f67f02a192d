use Rattle.ipdl_rules_r.proofs.Refuted.{refuted_mask_of_itself}
use Rattle.ipdl_rules_r.proofs.refutations.mask_needs_an_independent_mask.Goals as goal

pub returns : goal.returns
returns c = refuted_mask_of_itself
