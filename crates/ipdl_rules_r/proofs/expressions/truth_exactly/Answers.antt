use Rattle.ipdl_rules_r.proofs.TruthRefusals.{truth_exactly}
use Rattle.ipdl_rules_r.proofs.expressions.truth_exactly.Goals as goal

pub returns : goal.returns
returns c = truth_exactly
