use Rattle.std.proofs.Common.{refl, arith}
use Rattle.ipdl_base.proofs.BitsNumbers.{width_from_bits}
use Rattle.ipdl_base.proofs.BitsRanges.{bits_of-joined, joined_below}
use Rattle.ipdl_base.proofs.bits.Bits.cat.Goals as goal

pub returns-then-other-self : goal.returns-then-other-self
returns-then-other-self c within =
    omega (arith, width_from_bits _ _ _ c.self.view_is, width_from_bits _ _ _ c.other.view_is)

pub invariant_of-result : goal.invariant_of-result
invariant_of-result c =
    (omega arith, rw (c.of.ensures, c.joined.ensures, c.number-high.ensures, c.number-low.ensures) (joined_below _ _ _ _ c.self.invariant.1 c.other.invariant.1))

pub returns : goal.returns
returns c = (
  omega (arith, width_from_bits _ _ _ c.self.view_is, width_from_bits _ _ _ c.other.view_is),
  rw (c.of.ensures, c.joined.ensures, c.number-high.ensures, c.number-low.ensures, bits_of-joined c.self.inside.width c.other.inside.width c.self.inside.value c.other.inside.value c.other.invariant.1, c.self.view_is, c.other.view_is) refl,
)
