use Rattle.ipdl_rules_r.proofs.Refuted.{refuted_dropr_of_a_use}
use Rattle.ipdl_rules_r.proofs.refutations.dropr_needs_an_unused_value.Goals as goal

pub returns : goal.returns
returns c = refuted_dropr_of_a_use
