use Rattle.ipdl_laws.proofs.ClosingContexts.{interpreted_tables}
use Rattle.ipdl_laws.proofs.nontrivial.interpreted_tables_have_widths.Goals as goal

pub returns : goal.returns
returns c = interpreted_tables
