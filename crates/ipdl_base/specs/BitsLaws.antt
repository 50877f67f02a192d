-- The laws of bits that their type rests on. The further ones stand in proofs/.
use Rattle.std.proofs.Common.{◌≡◌, ℕ, zero, suc, ◌+◌, ◌*◌, ◌/◌, ◌%◌, ◌^◌, ◌<◌, Bool, List, length, refl, sym, ◌∙◌, ap, ap₂, one-add, le_of_suc-le-suc, not-suc-le-zero, mod-eq_of_lt}
use Rattle.std.specs.Prelude.{nat_eq}
use Rattle.std.specs.Bool.{Decides}
use Rattle.std.specs.Cmp.{IsEquivalence, booleans_Decides, decided}
use Rattle.std.specs.Cmp.Lexicographic.{pointwise_decides}
use Rattle.std.specs.Int.{bit_at}
use Rattle.std.proofs.Math.Nat.{mod-one}
use Rattle.std.proofs.lemmas.Nat.{mod-pow-add, div-mul-add, mod-mul-add}
use Rattle.std.proofs.lemmas.Nat.Bits.{bit_at-lt}
use Rattle.ipdl_base.specs.Bits.{bit, bits_of, bit_value, number_of, same_bits}

-- there are as many bits as the width says
pub length-bits_of : (width n : ℕ) → length (bits_of width n) ≡ width
unfolding bits_of
length-bits_of zero n = refl
length-bits_of (suc width) n = ap suc (length-bits_of width n)

-- a number below 2 is the value of the bit that it tells
bit_value-nat_eq : (b : ℕ) → b < 2 → bit_value (nat_eq b 1) ≡ b
bit_value-nat_eq zero below = refl
bit_value-nat_eq (suc zero) below = refl
bit_value-nat_eq (suc (suc b)) below =
    absurd (not-suc-le-zero (le_of_suc-le-suc (le_of_suc-le-suc below)))

-- the value of the bit at a place
bit_value-bit : (n i : ℕ) → bit_value (bit n i) ≡ n / 2 ^ i % 2
bit_value-bit n i = bit_value-nat_eq (bit_at n i) (bit_at-lt n i)

-- the lowest bits of a number spell its remainder
pub number_of-bits_of : (width n : ℕ) → number_of (bits_of width n) ≡ n % 2 ^ width
unfolding bits_of number_of
number_of-bits_of zero n = sym (mod-one n)
number_of-bits_of (suc width) n =
    let first : bit_value (bit n width) * 2 ^ length (bits_of width n) ≡ (n / 2 ^ width % 2) * 2 ^ width = ap₂ (λ b w. b * 2 ^ w) (bit_value-bit n width) (length-bits_of width n) in
    ap₂ (λ a b. a + b) first (number_of-bits_of width n)
    ∙ sym (mod-pow-add n 1 width)
    ∙ ap (λ w. n % 2 ^ w) (one-add width)

-- a number that fits the width is spelled by its bits
pub number_of-bits_of_below : (width n : ℕ) → n < 2 ^ width → number_of (bits_of width n) ≡ n
number_of-bits_of_below width n below = number_of-bits_of width n ∙ mod-eq_of_lt below

-- the bits give back the width and the number that they were made of
pub width_and_number-bits_of : {X : Type 0} (width n : ℕ) → n < 2 ^ width → (make : ℕ → ℕ → X) → make (length (bits_of width n)) (number_of (bits_of width n)) ≡ make width n
width_and_number-bits_of width n below make =
    ap₂ make (length-bits_of width n) (number_of-bits_of_below width n below)

-- the two halves of a number give back what it was made of
pub halves_of_sum : {X : Type 0} (high low : ℕ) → low < 2 ^ 64 → (make : ℕ → ℕ → X) → make ((high * 2 ^ 64 + low) / 2 ^ 64) ((high * 2 ^ 64 + low) % 2 ^ 64) ≡ make high low
halves_of_sum high low below make = ap₂ make (div-mul-add high (2 ^ 64) low below) (mod-mul-add high (2 ^ 64) low below)

-- the test of two lists of bits is true exactly where they are equal, so it is an equivalence
pub same_bits-Decides : (xs ys : List Bool) → Decides (same_bits xs ys) (xs ≡ ys)
same_bits-Decides = pointwise_decides booleans_Decides

pub same_bits-equivalence : IsEquivalence same_bits
same_bits-equivalence = decided same_bits same_bits-Decides
