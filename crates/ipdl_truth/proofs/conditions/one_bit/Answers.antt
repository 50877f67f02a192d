use Rattle.std.proofs.Common.{◌^◌, ◌<◌, ◌≤◌, refl, subst, ◌∙◌}
use Rattle.std.specs.Option.{SomeIff}
use Rattle.ipdl_base.proofs.BitsNumbers.{bits_of-one}
use Rattle.ipdl_base.specs.Bits.{bits_of}
use Rattle.ipdl_truth.proofs.conditions.one_bit.Goals as goal
use Rattle.ipdl_truth.proofs.conditions.one_bit.Goals.{then-bit, else-bit}

pub returns : goal.returns
returns c =
    let made = subst (λ o. SomeIff o ((1 ≤ 128) × (c.if-bit.value < 2 ^ 1)) (bits_of 1 c.if-bit.value)) c.unwrap.ensures c.new.ensures in
    made.1 ∙ bits_of-one c.args.bit c.if-bit.value (elim c.if-bit.branch [ then-bit w ↦ rw (w.value-is, w.if-bit.true) refl | else-bit w ↦ rw (w.value-is, w.if-bit.false) refl ])
