use Rattle.ipdl_rules_r.proofs.WorkedExpressionRows.{cancelled_instance}
use Rattle.ipdl_rules_r.proofs.worked_expressions.cancelled_bits_are_zeros.Goals as goal

pub returns : goal.returns
returns c = cancelled_instance
