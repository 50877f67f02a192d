use Rattle.ipdl_truth.proofs.Interpretations.{evaluation-tables}
use Rattle.ipdl_truth.proofs.laws.tables_suffice.Goals as goal

pub returns : goal.returns
returns c = evaluation-tables
