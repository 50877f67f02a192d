use Rattle.std.proofs.Common.{arith}
use Rattle.ipdl_base.proofs.BitsNumbers.{width_from_bits}
use Rattle.ipdl_base.proofs.bits.Bits.width.Goals as goal

pub returns-clause-value : goal.returns-clause-value
returns-clause-value c = width_from_bits _ _ _ c.self.view_is

pub returns-clause-within : goal.returns-clause-within
returns-clause-within c =
    omega (arith, width_from_bits _ _ _ c.self.view_is, c.self.invariant.0)
