use Rattle.ipdl_laws.proofs.FilledTotals.{totals_filled}
use Rattle.ipdl_laws.proofs.assignments.totals_of_filled.Goals as goal

pub returns : goal.returns
returns c = totals_filled
