-- The bits of an operation on numbers are the operation on the bits.
use Rattle.std.proofs.Common.{◌≡◌, ℕ, zero, suc, ◌+◌, ◌-◌, ◌%◌, ◌^◌, ◌<◌, ◌≤◌, Bool, not, ◌&&◌, min, refl, arith}
use Rattle.std.specs.Prelude.{nat_eq, bit_xor, bit_and}
use Rattle.std.specs.Int.{bit_at}
use Rattle.std.proofs.lemmas.Nat.Bits.{bit_at-lt, bit_at_xor, bit_at_and, bit_at_ones}
use Rattle.ipdl_base.specs.Bits.{bit, bits_of, xor, zip_bits, xor_bits, and_bits, not_bits}

-- an operation on numbers that acts on each bit alone acts so on the lists of the bits
pub bits_of-zip : (op : Bool → Bool → Bool) (combine : ℕ → ℕ → ℕ) → ((a b i : ℕ) → bit (combine a b) i ≡ op (bit a i) (bit b i)) → (width a b : ℕ) → bits_of width (combine a b) ≡ zip_bits op (bits_of width a) (bits_of width b)
unfolding bits_of
bits_of-zip op combine bit_by_bit zero a b = refl
bits_of-zip op combine bit_by_bit (suc width) a b =
    rw (bit_by_bit a b width, bits_of-zip op combine bit_by_bit width a b) refl

-- the tests of two numbers below 2, for their sum, the less of them, and one turned round
nat_eq-sum : (a b : ℕ) → a < 2 → b < 2 → nat_eq ((a + b) % 2) 1 ≡ xor (nat_eq a 1) (nat_eq b 1)
nat_eq-sum zero zero h k = refl
nat_eq-sum zero (suc zero) h k = refl
nat_eq-sum (suc zero) zero h k = refl
nat_eq-sum (suc zero) (suc zero) h k = refl
nat_eq-sum (suc (suc a)) b h k = absurd (omega arith)
nat_eq-sum zero (suc (suc b)) h k = absurd (omega arith)
nat_eq-sum (suc zero) (suc (suc b)) h k = absurd (omega arith)

nat_eq-min : (a b : ℕ) → a < 2 → b < 2 → nat_eq (min a b) 1 ≡ (nat_eq a 1 && nat_eq b 1)
nat_eq-min zero zero h k = refl
nat_eq-min zero (suc zero) h k = refl
nat_eq-min (suc zero) zero h k = refl
nat_eq-min (suc zero) (suc zero) h k = refl
nat_eq-min (suc (suc a)) b h k = absurd (omega arith)
nat_eq-min zero (suc (suc b)) h k = absurd (omega arith)
nat_eq-min (suc zero) (suc (suc b)) h k = absurd (omega arith)

nat_eq-flip : (a : ℕ) → a < 2 → nat_eq ((a + 1) % 2) 1 ≡ not (nat_eq a 1)
nat_eq-flip zero h = refl
nat_eq-flip (suc zero) h = refl
nat_eq-flip (suc (suc a)) h = absurd (omega arith)

-- one bit of an operation on numbers
pub bit-xor : (a b i : ℕ) → bit (bit_xor a b) i ≡ xor (bit a i) (bit b i)
bit-xor a b i =
    rw (bit_at_xor a b i) (nat_eq-sum (bit_at a i) (bit_at b i) (bit_at-lt a i) (bit_at-lt b i))

pub bit-and : (a b i : ℕ) → bit (bit_and a b) i ≡ (bit a i && bit b i)
bit-and a b i =
    rw (bit_at_and a b i) (nat_eq-min (bit_at a i) (bit_at b i) (bit_at-lt a i) (bit_at-lt b i))

bit-flip : (n width i : ℕ) → i < width → bit (bit_xor n (2 ^ width - 1)) i ≡ not (bit n i)
bit-flip n width i within =
    rw (bit_at_xor n (2 ^ width - 1) i, bit_at_ones width i within) (nat_eq-flip (bit_at n i) (bit_at-lt n i))

-- the bits of `a ^ b` and of `a & b`
pub bits_of-xor : (width a b : ℕ) → bits_of width (bit_xor a b) ≡ xor_bits (bits_of width a) (bits_of width b)
bits_of-xor = bits_of-zip xor bit_xor bit-xor

pub bits_of-and : (width a b : ℕ) → bits_of width (bit_and a b) ≡ and_bits (bits_of width a) (bits_of width b)
bits_of-and = bits_of-zip ◌&&◌ bit_and bit-and

-- the lowest bits of a number whose bits up to the width are turned round
bits_of-flip : (lowest width n : ℕ) → lowest ≤ width → bits_of lowest (bit_xor n (2 ^ width - 1)) ≡ not_bits (bits_of lowest n)
unfolding bits_of
bits_of-flip zero width n within = refl
bits_of-flip (suc lowest) width n within =
    let here : lowest < width = omega arith in
    let less : lowest ≤ width = omega arith in
    rw (bit-flip n width lowest here, bits_of-flip lowest width n less) refl

pub bits_of-not : (width n : ℕ) → bits_of width (bit_xor n (2 ^ width - 1)) ≡ not_bits (bits_of width n)
bits_of-not width n = bits_of-flip width width n (omega arith)
