use Rattle.ipdl_rules_p.proofs.Refuted.{refuted_rename_to_a_hidden_name}
use Rattle.ipdl_rules_p.proofs.refutations.rename_needs_no_hidden_name.Goals as goal

pub returns : goal.returns
returns c = refuted_rename_to_a_hidden_name
