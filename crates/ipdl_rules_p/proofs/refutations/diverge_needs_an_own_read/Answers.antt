use Rattle.ipdl_rules_p.proofs.Refuted.{refuted_diverge_of_an_arm}
use Rattle.ipdl_rules_p.proofs.refutations.diverge_needs_an_own_read.Goals as goal

pub returns : goal.returns
returns c = refuted_diverge_of_an_arm
