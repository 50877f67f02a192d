use Rattle.ipdl_rules_r.proofs.Refuted.{refuted_perm_of_a_bit}
use Rattle.ipdl_rules_r.proofs.refutations.perm_needs_different_values.Goals as goal

pub returns : goal.returns
returns c = refuted_perm_of_a_bit
