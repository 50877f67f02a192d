use Rattle.std.proofs.Common.{refl}
use Rattle.ipdl_base.specs.Bits.{bits_of}
use Rattle.ipdl_truth.proofs.worked.values_of_a_table.Goals as goal

pub returns-clause-at_zero : goal.returns-clause-at_zero
unfolding bits_of
returns-clause-at_zero c = refl

pub returns-clause-at_one : goal.returns-clause-at_one
unfolding bits_of
returns-clause-at_one c = refl
