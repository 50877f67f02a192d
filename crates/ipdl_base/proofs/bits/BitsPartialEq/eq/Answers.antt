use Rattle.ipdl_base.proofs.BitsEquality.{same_bits_by_number, same_bits_by_width, same_bits-told}
use Rattle.ipdl_base.proofs.bits.BitsPartialEq.eq.Goals as goal

pub returns-then-self-other-clause-value : goal.returns-then-self-other-clause-value
returns-then-self-other-clause-value c =
    rw (c.number.ensures, c.number-then-self-other.ensures) (same_bits_by_number _ _ _ _ _ _ c.self.view_is c.other.view_is c.self.invariant.1 c.other.invariant.1 c.if-self-other.true)

pub returns-else-self-other-clause-value : goal.returns-else-self-other-clause-value
returns-else-self-other-clause-value c = same_bits_by_width _ _ _ _ _ _ c.self.view_is c.other.view_is c.if-self-other.false

pub returns-then-self-other-clause-same : goal.returns-then-self-other-clause-same
returns-then-self-other-clause-same c =
    rw (c.number.ensures, c.number-then-self-other.ensures) (same_bits-told _ _ _ (same_bits_by_number _ _ _ _ _ _ c.self.view_is c.other.view_is c.self.invariant.1 c.other.invariant.1 c.if-self-other.true))

pub returns-else-self-other-clause-same : goal.returns-else-self-other-clause-same
returns-else-self-other-clause-same c =
    same_bits-told _ _ _ (same_bits_by_width _ _ _ _ _ _ c.self.view_is c.other.view_is c.if-self-other.false)
