use Rattle.std.proofs.Common.{◌∙◌}
use Rattle.ipdl_base.proofs.BitsNumbers.{number_from_bits}
use Rattle.ipdl_base.proofs.bits.Bits.value.Goals as goal

pub returns : goal.returns
returns c = c.number.ensures ∙ number_from_bits _ _ _ c.self.view_is c.self.invariant.1
