use Rattle.std.proofs.Common.{◌+◌, ◌*◌, ◌^◌, ◌<◌, refl, arith}
use Rattle.std.proofs.Math.Nat.{mod-eq_of_lt}
use Rattle.ipdl_base.proofs.BitsRanges.{joined_fits}
use Rattle.ipdl_base.proofs.bits.joined.Goals as goal

pub overflow_add-result : goal.overflow_add-result
overflow_add-result c =
    let fits : c.args.high * 2 ^ c.args.low_width + c.args.low < 2 ^ 128 = joined_fits _ _ _ _ c.requires.fits c.requires.high c.requires.low in
    let shifted : c.args.high * 2 ^ c.args.low_width < 2 ^ 128 = omega arith in
    rw (mod-eq_of_lt shifted) (omega arith)

pub returns-else-high_width-eq0 : goal.returns-else-high_width-eq0
returns-else-high_width-eq0 c =
    let fits : c.args.high * 2 ^ c.args.low_width + c.args.low < 2 ^ 128 = joined_fits _ _ _ _ c.requires.fits c.requires.high c.requires.low in
    let shifted : c.args.high * 2 ^ c.args.low_width < 2 ^ 128 = omega arith in
    rw (mod-eq_of_lt shifted) refl
