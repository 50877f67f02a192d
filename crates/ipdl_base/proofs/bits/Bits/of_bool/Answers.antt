use Rattle.std.proofs.Common.{refl}
use Rattle.ipdl_base.proofs.BitsNumbers.{bits_of-one}
use Rattle.ipdl_base.proofs.bits.Bits.of_bool.Goals as goal
use Rattle.ipdl_base.proofs.bits.Bits.of_bool.Goals.{then-bit, else-bit}

pub returns : goal.returns
returns c = rw c.of.ensures (bits_of-one c.args.bit c.if-bit.value (elim c.if-bit.branch [ then-bit w ↦ rw (w.value-is, w.if-bit.true) refl | else-bit w ↦ rw (w.value-is, w.if-bit.false) refl ]))
