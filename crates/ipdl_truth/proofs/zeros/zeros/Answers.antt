use Rattle.std.proofs.Common.{◌^◌, ◌<◌, ◌≤◌, subst, ◌∙◌}
use Rattle.std.specs.Option.{SomeIff}
use Rattle.ipdl_base.specs.Bits.{bits_of}
use Rattle.ipdl_truth.proofs.Bits.{bits_of-zero}
use Rattle.ipdl_truth.proofs.zeros.zeros.Goals as goal

pub returns : goal.returns
returns c =
    let w = c.args.width in
    let made = subst (λ o. SomeIff o ((w ≤ 128) × (0 < 2 ^ w)) (bits_of w 0)) c.unwrap.ensures c.new.ensures in
    made.1 ∙ bits_of-zero w
