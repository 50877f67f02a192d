use Rattle.std.proofs.Common.{refl, sym, ◌∙◌}
use Rattle.ipdl_base.proofs.BitsNumbers.{width_from_bits}
use Rattle.ipdl_base.proofs.BitsOperations.{bits_of-and}
use Rattle.ipdl_base.proofs.bits.Bits.and.Goals as goal

pub returns-then-self-other : goal.returns-then-self-other
returns-then-self-other c e =
    c.if-self-other.true (width_from_bits _ _ _ c.self.view_is ∙ e ∙ sym (width_from_bits _ _ _ c.other.view_is))

pub returns : goal.returns
returns c = (
  sym (width_from_bits _ _ _ c.self.view_is) ∙ c.if-self-other.false ∙ width_from_bits _ _ _ c.other.view_is,
  rw (c.of.ensures, c.number.ensures, c.number-2.ensures, bits_of-and, c.self.view_is, c.if-self-other.false, c.other.view_is) refl,
)
