use Rattle.std.proofs.Common.{refl, arith}
use Rattle.std.proofs.lemmas.Nat.{xor_lt, pow_pos}
use Rattle.ipdl_base.proofs.BitsOperations.{bits_of-not}
use Rattle.ipdl_base.proofs.bits.Bits.not.Goals as goal

pub invariant_of-result : goal.invariant_of-result
invariant_of-result c =
    (c.self.invariant.0, rw (c.of.ensures, c.number.ensures) (xor_lt _ _ _ c.self.invariant.1 (omega (arith, c.ones.ensures, pow_pos c.self.inside.width))))

pub returns : goal.returns
returns c = rw (c.of.ensures, c.number.ensures, c.ones.ensures, bits_of-not c.self.inside.width c.self.inside.value, c.self.view_is) refl
