use Rattle.ipdl_rules_r.proofs.Refuted.{refuted_again_of_a_flip}
use Rattle.ipdl_rules_r.proofs.refutations.again_needs_no_flip.Goals as goal

pub returns : goal.returns
returns c = refuted_again_of_a_flip
