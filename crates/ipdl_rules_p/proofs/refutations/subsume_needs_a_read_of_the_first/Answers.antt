use Rattle.ipdl_rules_p.proofs.Refuted.{refuted_subsume_beside_another}
use Rattle.ipdl_rules_p.proofs.refutations.subsume_needs_a_read_of_the_first.Goals as goal

pub returns : goal.returns
returns c = refuted_subsume_beside_another
