use Rattle.ipdl_rules_p.proofs.Refuted.{refuted_drop_before_an_arm}
use Rattle.ipdl_rules_p.proofs.refutations.drop_needs_what_is_read.Goals as goal

pub returns : goal.returns
returns c = refuted_drop_before_an_arm
