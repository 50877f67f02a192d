-- Bits and the numbers that they spell, and one bit as a test.
use Rattle.std.proofs.Common.{◌≡◌, ℕ, zero, suc, ◌+◌, ◌*◌, ◌^◌, ◌<◌, Bool, true, false, not, List, [], ◌∷◌, ◌++◌, length, refl, sym, ap, ap₂, ◌∙◌, arith}
use Rattle.std.proofs.lemmas.Nat.Bits.{bit_at-zero}
use Rattle.std.specs.Prelude.{nat_eq}
use Rattle.ipdl_base.proofs.BitsNumbers.{bits_of-one}
use Rattle.ipdl_base.proofs.BitsRanges.{bits_of-joined, joined_below}
use Rattle.ipdl_base.specs.Bits.{bits_of, bit_value, number_of, same_bits}
use Rattle.ipdl_base.specs.BitsLaws.{same_bits-Decides}
use Rattle.ipdl_term.specs.Interpretations.{zeros, chosen}
use Rattle.ipdl_term.specs.Terms.{Value}

-- the number 0 has no bit that is set
pub bits_of-zero : (width : ℕ) → bits_of width 0 ≡ zeros width
unfolding bits_of
bits_of-zero zero = refl
bits_of-zero (suc width) =
    ap₂ (λ b bs. b ∷ bs) (ap (λ n. nat_eq n 1) (bit_at-zero width)) (bits_of-zero width)

-- a bit is a number below 2
bit_value-below : (b : Bool) → bit_value b < 2 ^ 1
bit_value-below true = omega arith
bit_value-below false = omega arith

-- bits spell a number that fits their width
pub number_of-below : (bits : List Bool) → number_of bits < 2 ^ length bits
unfolding number_of
number_of-below [] = omega arith
number_of-below (b ∷ bits) =
    let e : 1 + length bits ≡ suc (length bits) = omega arith in
    let below : bit_value b * 2 ^ length bits + number_of bits < 2 ^ (1 + length bits) = joined_below (bit_value b) 1 (number_of bits) (length bits) (bit_value-below b) (number_of-below bits) in
    rw e at below

-- and that number has these bits
pub bits_of-number_of : (bits : List Bool) → bits_of (length bits) (number_of bits) ≡ bits
unfolding bits_of number_of
bits_of-number_of [] = refl
bits_of-number_of (b ∷ bits) =
    let n = bit_value b * 2 ^ length bits + number_of bits in
    let e : 1 + length bits ≡ suc (length bits) = omega arith in
    sym (ap (λ w. bits_of w n) e)
    ∙ bits_of-joined 1 (length bits) (bit_value b) (number_of bits) (number_of-below bits)
    ∙ ap₂ (λ xs ys. xs ++ ys) (bits_of-one b (bit_value b) refl) (bits_of-number_of bits)

-- one bit that spells 1, and one that does not
pub chosen_by_one : (test a b : Value) → length test ≡ 1 → number_of test ≡ 1 → a ≡ chosen test a b []
unfolding number_of
chosen_by_one [] a b w is = absurd (omega arith)
chosen_by_one (true ∷ []) a b w is = refl
chosen_by_one (false ∷ []) a b w is = absurd (omega arith)
chosen_by_one (x ∷ y ∷ bits) a b w is = absurd (omega arith)

pub chosen_by_other : (test a b : Value) → length test ≡ 1 → (number_of test ≡ 1 → ⊥) → b ≡ chosen test a b []
unfolding number_of
chosen_by_other [] a b w is = absurd (omega arith)
chosen_by_other (true ∷ []) a b w is = absurd (is refl)
chosen_by_other (false ∷ []) a b w is = refl
chosen_by_other (x ∷ y ∷ bits) a b w is = absurd (omega arith)

-- whether two values differ
pub differ_told : (a b : List Bool) (answer : Bool) → answer ≡ not (same_bits a b) → (answer ≡ true → a ≡ b → ⊥) × (answer ≡ false → a ≡ b)
differ_told a b answer is = (
  λ t e. let k = (same_bits-Decides a b).1 e in no_more (ap not k) t,
  λ f. (same_bits-Decides a b).0 (turned (same_bits a b) (sym is ∙ f)),
)
  where
    turned : (c : Bool) → not c ≡ false → c ≡ true
    turned true e = refl
    turned false e = cc

    no_more : not (same_bits a b) ≡ false → answer ≡ true → ⊥
    no_more e t = let f : true ≡ false = sym t ∙ is ∙ e in cc
