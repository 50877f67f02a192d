-- Bits one after the other, and the bits of a range.
use Rattle.std.proofs.Common.{◌≡◌, ℕ, zero, suc, ◌+◌, ◌-◌, ◌*◌, ◌/◌, ◌%◌, ◌^◌, ◌<◌, ◌≤◌, Bool, List, ◌++◌, take, drop, refl, sym, ◌∙◌, ap, arith}
use Rattle.std.specs.Prelude.{bit_and}
use Rattle.std.specs.Int.{bit_at}
use Rattle.std.proofs.Math.Nat.{pow-le-pow_right, div-div-eq-div-mul}
use Rattle.std.proofs.lemmas.Nat.{mul-add-lt, and_mask, pow-add, div-add-mod'}
use Rattle.std.proofs.lemmas.Nat.Bits.{bit_at_cat_low, bit_at_cat_high}
use Rattle.ipdl_base.specs.Bits.{bits_of}

-- numbers with the same bit at each place below the width have the same lowest bits
pub bits_of_same : (width a b : ℕ) → ((i : ℕ) → i < width → bit_at a i ≡ bit_at b i) → bits_of width a ≡ bits_of width b
unfolding bits_of
bits_of_same zero a b same = refl
bits_of_same (suc width) a b same =
    let first : bit_at a width ≡ bit_at b width = same width (omega arith) in
    let rest : bits_of width a ≡ bits_of width b = bits_of_same width a b (λ i below. same i (omega arith)) in
    rw (first, rest) refl

-- the bits of the number that is spelled by the bits of `high` and then those of `low`
pub bits_of-joined : (high_width low_width high low : ℕ) → low < 2 ^ low_width → bits_of (high_width + low_width) (high * 2 ^ low_width + low) ≡ bits_of high_width high ++ bits_of low_width low
unfolding bits_of
bits_of-joined zero w high low below =
    let no_more : 0 + w ≡ w = omega arith in
    rw no_more (bits_of_same w (high * 2 ^ w + low) low (λ i within. bit_at_cat_low high w low i within))
bits_of-joined (suc v) w high low below =
    let one_more : suc v + w ≡ suc (v + w) = omega arith in
    let above : w ≤ v + w = omega arith in
    let back : v + w - w ≡ v = omega arith in
    let first : bit_at (high * 2 ^ w + low) (v + w) ≡ bit_at high v = bit_at_cat_high high w low (v + w) below above ∙ ap (λ i. bit_at high i) back in
    rw (one_more, first, bits_of-joined v w high low below) refl

-- that number fits the sum of the widths
pub joined_below : (high high_width low low_width : ℕ) → high < 2 ^ high_width → low < 2 ^ low_width → high * 2 ^ low_width + low < 2 ^ (high_width + low_width)
joined_below high v low w high_below low_below =
    let turned : v + w ≡ w + v = omega arith in
    let power : 2 ^ (v + w) ≡ 2 ^ w * 2 ^ v = rw (turned, pow-add 2 w v) refl in
    let below : high * 2 ^ w + low < 2 ^ w * 2 ^ v = mul-add-lt high (2 ^ w) low (2 ^ v) high_below low_below in
    rw power below

-- and so 128 bits, where the widths do
pub joined_fits : (high high_width low low_width : ℕ) → high_width + low_width ≤ 128 → high < 2 ^ high_width → low < 2 ^ low_width → high * 2 ^ low_width + low < 2 ^ 128
joined_fits high v low w within high_below low_below =
    let below : high * 2 ^ w + low < 2 ^ (v + w) = joined_below high v low w high_below low_below in
    let two : 0 < 2 = omega arith in
    let most : 2 ^ (v + w) ≤ 2 ^ 128 = pow-le-pow_right two within in
    omega arith

-- the bits after the first ones are lower bits of the same number
pub drop-bits_of : (from width n : ℕ) → drop from (bits_of (from + width) n) ≡ bits_of width n
unfolding bits_of
drop-bits_of zero width n =
    let no_more : 0 + width ≡ width = omega arith in
    rw no_more refl
drop-bits_of (suc from) width n =
    let one_more : suc from + width ≡ suc (from + width) = omega arith in
    rw (one_more, drop-bits_of from width n) refl

-- a bit of a number that is shifted to the right
bit_at-shifted : (n by i : ℕ) → bit_at n (i + by) ≡ bit_at (n / 2 ^ by) i
bit_at-shifted n by i =
    let turned : i + by ≡ by + i = omega arith in
    rw (turned, pow-add 2 by i, div-div-eq-div-mul n (2 ^ by) (2 ^ i)) refl

-- the first bits are the bits of the number shifted by those behind
pub take-bits_of : (count behind n : ℕ) → take count (bits_of (count + behind) n) ≡ bits_of count (n / 2 ^ behind)
unfolding bits_of
take-bits_of zero behind n = refl
take-bits_of (suc count) behind n =
    let one_more : suc count + behind ≡ suc (count + behind) = omega arith in
    rw (one_more, take-bits_of count behind n, bit_at-shifted n behind count) refl

-- the lowest bits see the remainder alone
pub bits_of-mod : (width n : ℕ) → bits_of width (n % 2 ^ width) ≡ bits_of width n
bits_of-mod width n =
    let whole : (n / 2 ^ width) * 2 ^ width + n % 2 ^ width ≡ n = div-add-mod' n (2 ^ width) in
    bits_of_same width (n % 2 ^ width) n
    (λ i below. sym (bit_at_cat_low (n / 2 ^ width) width (n % 2 ^ width) i below) ∙ ap (λ x. bit_at x i) whole)

-- the bits of a range, by a shift and a remainder
bits_of-range : (from count behind n : ℕ) → bits_of count (n / 2 ^ behind % 2 ^ count) ≡ take count (drop from (bits_of (from + (count + behind)) n))
bits_of-range from count behind n =
    rw (bits_of-mod count (n / 2 ^ behind), drop-bits_of from (count + behind) n, take-bits_of count behind n) refl

-- the bits of a range, by a shift and a mask, from the list that the number stands for
pub bits_of-cut : (width n from count : ℕ) (bits : List Bool) → bits_of width n ≡ bits → from + count ≤ width → bits_of count (bit_and (n / 2 ^ (width - from - count)) (2 ^ count - 1)) ≡ take count (drop from bits)
bits_of-cut width n from count bits are within =
    let behind = width - from - count in
    let whole : width ≡ from + (count + behind) = omega arith in
    let range : bits_of count (n / 2 ^ behind % 2 ^ count) ≡ take count (drop from (bits_of (from + (count + behind)) n)) = bits_of-range from count behind n in
    let back : bits_of (from + (count + behind)) n ≡ bits = ap (λ w. bits_of w n) (sym whole) ∙ are in
    rw and_mask (range ∙ ap (λ l. take count (drop from l)) back)
