use Rattle.std.proofs.Common.{refl}
use Rattle.ipdl_base.specs.Bits.{bits_of}
use Rattle.ipdl_script.proofs.worked.table_in_an_arm.Goals as goal

pub returns-clause-differs : goal.returns-clause-differs
unfolding bits_of
returns-clause-differs c = refl
