use Rattle.std.proofs.Common.{refl}
use Rattle.ipdl_base.specs.Bits.{bits_of}
use Rattle.ipdl_truth.proofs.WorkedRows.{width_differs}
use Rattle.ipdl_truth.proofs.worked.widths_differ.Goals as goal

pub returns-clause-differ : goal.returns-clause-differ
returns-clause-differ c = width_differs

pub returns-clause-first : goal.returns-clause-first
unfolding bits_of
returns-clause-first c = refl
