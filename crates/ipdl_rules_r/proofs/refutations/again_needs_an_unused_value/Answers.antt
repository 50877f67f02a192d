use Rattle.ipdl_rules_r.proofs.Refuted.{refuted_again_of_a_use}
use Rattle.ipdl_rules_r.proofs.refutations.again_needs_an_unused_value.Goals as goal

pub returns : goal.returns
returns c = refuted_again_of_a_use
