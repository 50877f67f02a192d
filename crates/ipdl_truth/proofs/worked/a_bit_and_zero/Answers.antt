use Rattle.std.proofs.Common.{refl}
use Rattle.ipdl_base.specs.Bits.{bits_of}
use Rattle.ipdl_truth.proofs.WorkedRows.{bit_differs, zero_where_asked}
use Rattle.ipdl_truth.proofs.worked.a_bit_and_zero.Goals as goal

pub returns-clause-differ : goal.returns-clause-differ
returns-clause-differ c = bit_differs

pub returns-clause-agree : goal.returns-clause-agree
returns-clause-agree c = zero_where_asked

pub returns-clause-first : goal.returns-clause-first
unfolding bits_of
returns-clause-first c = refl

pub returns-clause-none : goal.returns-clause-none
unfolding bits_of
returns-clause-none c = refl
