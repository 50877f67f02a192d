use Rattle.ipdl_rules_r.proofs.Refuted.{refuted_ifsame_of_other_arms}
use Rattle.ipdl_rules_r.proofs.refutations.ifsame_needs_the_same_arms.Goals as goal

pub returns : goal.returns
returns c = refuted_ifsame_of_other_arms
