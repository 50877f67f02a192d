-- Bits and the numbers that they spell.
use Rattle.std.proofs.Common.{◌≡◌, ℕ, ◌^◌, ◌<◌, Bool, true, false, List, [], ◌∷◌, length, refl, sym, ◌∙◌, ap}
use Rattle.ipdl_base.specs.Bits.{bits_of, bit_value, number_of}
use Rattle.ipdl_base.specs.BitsLaws.{length-bits_of, number_of-bits_of_below}

-- numbers that fit the width and have the same bits are the same
pub bits_of-injective : (width a b : ℕ) → a < 2 ^ width → b < 2 ^ width → bits_of width a ≡ bits_of width b → a ≡ b
bits_of-injective width a b a_below b_below same =
    sym (number_of-bits_of_below width a a_below) ∙ ap number_of same ∙ number_of-bits_of_below width b b_below

-- the width, from the list that the bits are
pub width_from_bits : (width n : ℕ) (bits : List Bool) → bits_of width n ≡ bits → width ≡ length bits
width_from_bits width n bits are = sym (length-bits_of width n) ∙ ap length are

-- the number, from the list that its bits are
pub number_from_bits : (width n : ℕ) (bits : List Bool) → bits_of width n ≡ bits → n < 2 ^ width → n ≡ number_of bits
number_from_bits width n bits are below =
    sym (number_of-bits_of_below width n below) ∙ ap number_of are

-- a single bit, from the number that it spells
pub bits_of-one : (b : Bool) (n : ℕ) → n ≡ bit_value b → bits_of 1 n ≡ b ∷ []
unfolding bits_of
bits_of-one true n is = rw is refl
bits_of-one false n is = rw is refl
