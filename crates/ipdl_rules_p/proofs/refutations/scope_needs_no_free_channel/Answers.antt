use Rattle.ipdl_rules_p.proofs.Refuted.{refuted_scope_of_a_free_channel}
use Rattle.ipdl_rules_p.proofs.refutations.scope_needs_no_free_channel.Goals as goal

pub returns : goal.returns
returns c = refuted_scope_of_a_free_channel
