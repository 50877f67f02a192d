use Rattle.ipdl_truth.proofs.Interpretations.{tables-Interprets}
use Rattle.ipdl_truth.proofs.laws.tables_interpret.Goals as goal

pub returns : goal.returns
returns c = tables-Interprets c.args.sig.now c.count-count.ensures.formed
