use Rattle.ipdl_rules_p.proofs.Refuted.{refuted_subsume_of_an_arm}
use Rattle.ipdl_rules_p.proofs.refutations.subsume_needs_what_the_first_reads.Goals as goal

pub returns : goal.returns
returns c = refuted_subsume_of_an_arm
