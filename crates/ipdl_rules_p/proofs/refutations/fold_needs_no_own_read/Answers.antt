use Rattle.ipdl_rules_p.proofs.Refuted.{refuted_fold_of_an_own_read}
use Rattle.ipdl_rules_p.proofs.refutations.fold_needs_no_own_read.Goals as goal

pub returns : goal.returns
returns c = refuted_fold_of_an_own_read
