use Rattle.ipdl_rules_p.proofs.Refuted.{refuted_fold_of_two_reads}
use Rattle.ipdl_rules_p.proofs.refutations.fold_needs_a_lone_read.Goals as goal

pub returns : goal.returns
returns c = refuted_fold_of_two_reads
