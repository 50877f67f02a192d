use Rattle.std.proofs.Common.{refl, sym, ◌∙◌}
use Rattle.std.proofs.lemmas.Nat.{xor_lt}
use Rattle.ipdl_base.proofs.BitsNumbers.{width_from_bits}
use Rattle.ipdl_base.proofs.BitsOperations.{bits_of-xor}
use Rattle.ipdl_base.proofs.bits.Bits.xor.Goals as goal

pub returns-then-self-other : goal.returns-then-self-other
returns-then-self-other c e =
    c.if-self-other.true (width_from_bits _ _ _ c.self.view_is ∙ e ∙ sym (width_from_bits _ _ _ c.other.view_is))

pub invariant_of-result : goal.invariant_of-result
invariant_of-result c =
    (c.self.invariant.0, rw (c.of.ensures, c.number.ensures, c.number-2.ensures) (xor_lt _ _ _ c.self.invariant.1 (rw c.if-self-other.false c.other.invariant.1)))

pub returns : goal.returns
returns c = (
  sym (width_from_bits _ _ _ c.self.view_is) ∙ c.if-self-other.false ∙ width_from_bits _ _ _ c.other.view_is,
  rw (c.of.ensures, c.number.ensures, c.number-2.ensures, bits_of-xor, c.self.view_is, c.if-self-other.false, c.other.view_is) refl,
)
