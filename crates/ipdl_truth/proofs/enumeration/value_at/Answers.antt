use Rattle.std.proofs.Common.{◌≡◌, ◌*◌, ◌/◌, ◌%◌, ◌^◌, ◌<◌, ◌≤◌, subst, ap, ◌∙◌, arith, mod-eq_of_lt}
use Rattle.std.proofs.Math.Nat.{pow-le-pow_right}
use Rattle.std.specs.Option.{SomeIff}
use Rattle.ipdl_base.proofs.BitsRanges.{bits_of-mod}
use Rattle.ipdl_base.specs.Bits.{bits_of}
use Rattle.ipdl_truth.proofs.enumeration.value_at.Goals as goal

pub returns : goal.returns
returns c =
    let w = c.args.width in
    let x = c.args.number / 2 ^ c.args.rest in
    let two : 0 < 2 = omega arith in
    let narrow : w ≤ 12 = omega arith in
    let most : 2 ^ w ≤ 2 ^ 12 = pow-le-pow_right two narrow in
    let whole : 1 * 2 ^ w % 4294967296 ≡ 2 ^ w = ap (λ n. n % 4294967296) (omega arith) ∙ mod-eq_of_lt (omega arith) in
    let made = subst (λ o. SomeIff o ((w ≤ 128) × (c.from.result < 2 ^ w)) (bits_of w c.from.result)) c.unwrap.ensures c.new.ensures in
    made.1 ∙ ap (bits_of w) (c.from.ensures ∙ ap (λ m. x % m) whole) ∙ bits_of-mod w x
