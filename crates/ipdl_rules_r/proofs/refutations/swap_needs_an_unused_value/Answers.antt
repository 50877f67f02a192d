use Rattle.ipdl_rules_r.proofs.Refuted.{refuted_swap_of_a_use}
use Rattle.ipdl_rules_r.proofs.refutations.swap_needs_an_unused_value.Goals as goal

pub returns : goal.returns
returns c = refuted_swap_of_a_use
