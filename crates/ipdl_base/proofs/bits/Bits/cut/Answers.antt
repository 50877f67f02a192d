use Rattle.std.proofs.Common.{◌≡◌, length, refl, arith}
use Rattle.ipdl_base.specs.Bits.{bits_of}
use Rattle.ipdl_base.proofs.BitsNumbers.{width_from_bits}
use Rattle.ipdl_base.proofs.BitsRanges.{bits_of-cut}
use Rattle.ipdl_base.proofs.bits.Bits.cut.Goals as goal

pub returns-then-end-from-clause-past : goal.returns-then-end-from-clause-past
returns-then-end-from-clause-past c =
    let width : c.self.inside.width ≡ length c.args.self = width_from_bits _ _ _ c.self.view_is in
    omega arith

pub returns-then-end-from-clause-error : goal.returns-then-end-from-clause-error
returns-then-end-from-clause-error c =
    let width : c.self.inside.width ≡ length c.args.self = width_from_bits _ _ _ c.self.view_is in
    rw (c.from.ensures, c.from-2.ensures, width) refl

pub returns-then-count-eq0-clause-within : goal.returns-then-count-eq0-clause-within
returns-then-count-eq0-clause-within c =
    let width : c.self.inside.width ≡ length c.args.self = width_from_bits _ _ _ c.self.view_is in
    omega arith

pub returns-then-count-eq0-clause-value : goal.returns-then-count-eq0-clause-value
unfolding bits_of
returns-then-count-eq0-clause-value c = rw c.if-count-eq0.true refl

pub returns-clause-within : goal.returns-clause-within
returns-clause-within c =
    let width : c.self.inside.width ≡ length c.args.self = width_from_bits _ _ _ c.self.view_is in
    omega arith

pub returns-clause-value : goal.returns-clause-value
returns-clause-value c =
    rw (c.of-2.ensures, c.number.ensures, c.ones.ensures) (bits_of-cut c.self.inside.width c.self.inside.value c.args.from c.args.count c.args.self c.self.view_is (omega arith))
