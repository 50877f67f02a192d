use Rattle.ipdl_rules_r.proofs.Refuted.{refuted_again_of_another_part}
use Rattle.ipdl_rules_r.proofs.refutations.again_needs_the_same_part.Goals as goal

pub returns : goal.returns
returns c = refuted_again_of_another_part
