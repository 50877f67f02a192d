use Rattle.ipdl_rules_r.proofs.Refuted.{apart_under_widening_table, widened_are_different}
use Rattle.ipdl_rules_r.proofs.refutations.perm_needs_one_width.Goals as goal

pub returns-clause-different : goal.returns-clause-different
returns-clause-different c = widened_are_different

pub returns-clause-apart : goal.returns-clause-apart
returns-clause-apart c = apart_under_widening_table
