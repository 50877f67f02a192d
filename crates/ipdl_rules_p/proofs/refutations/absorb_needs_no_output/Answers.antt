use Rattle.ipdl_rules_p.proofs.Refuted.{absorb_not_alike, absorbed_writes_nothing}
use Rattle.ipdl_rules_p.proofs.refutations.absorb_needs_no_output.Goals as goal

pub returns-clause-unlike : goal.returns-clause-unlike
returns-clause-unlike c = absorb_not_alike

pub returns-clause-equal : goal.returns-clause-equal
returns-clause-equal c = absorbed_writes_nothing
