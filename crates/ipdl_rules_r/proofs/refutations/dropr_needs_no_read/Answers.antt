use Rattle.ipdl_rules_r.proofs.Refuted.{refuted_dropr_of_a_read}
use Rattle.ipdl_rules_r.proofs.refutations.dropr_needs_no_read.Goals as goal

pub returns : goal.returns
returns c = refuted_dropr_of_a_read
