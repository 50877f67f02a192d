use Rattle.ipdl_rules_p.proofs.Refuted.{refuted_subst_of_a_flip}
use Rattle.ipdl_rules_p.proofs.refutations.subst_needs_no_flip.Goals as goal

pub returns : goal.returns
returns c = refuted_subst_of_a_flip
