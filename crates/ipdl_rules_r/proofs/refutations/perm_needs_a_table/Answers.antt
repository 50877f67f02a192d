use Rattle.ipdl_rules_r.proofs.Refuted.{apart_under_abstract_symbol}
use Rattle.ipdl_rules_r.proofs.refutations.perm_needs_a_table.Goals as goal

pub returns-clause-apart : goal.returns-clause-apart
returns-clause-apart c = apart_under_abstract_symbol
