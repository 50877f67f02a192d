use Rattle.std.proofs.Common.{refl}
use Rattle.ipdl_base.specs.Bits.{bits_of}
use Rattle.ipdl_truth.proofs.WorkedRows.{cancelled_everywhere}
use Rattle.ipdl_truth.proofs.worked.cancelled_is_zero.Goals as goal

pub returns-clause-agree : goal.returns-clause-agree
returns-clause-agree c = cancelled_everywhere

pub returns-clause-none : goal.returns-clause-none
unfolding bits_of
returns-clause-none c = refl
