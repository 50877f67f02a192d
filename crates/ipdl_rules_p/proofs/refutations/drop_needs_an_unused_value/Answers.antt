use Rattle.ipdl_rules_p.proofs.Refuted.{refuted_drop_of_a_use}
use Rattle.ipdl_rules_p.proofs.refutations.drop_needs_an_unused_value.Goals as goal

pub returns : goal.returns
returns c = refuted_drop_of_a_use
