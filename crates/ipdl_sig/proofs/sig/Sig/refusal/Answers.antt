use Rattle.ipdl_sig.proofs.Faults.{shape_faults-none}
use Rattle.ipdl_sig.proofs.sig.Sig.refusal.Goals as goal

pub returns-clause-accepts : goal.returns-clause-accepts
returns-clause-accepts c new formed =
    shape_faults-none c.args.symbol.now c.fault.result c.fault.ensures.value formed
