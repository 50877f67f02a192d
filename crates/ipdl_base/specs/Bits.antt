-- Bits are a list, the first bit on the left. It is the highest one of the number that they spell.
use Rattle.std.specs.Prelude.{ℕ, zero, suc, ◌+◌, ◌*◌, ◌^◌, Bool, true, false, not, ◌&&◌, nat_eq, List, [], ◌∷◌, length, map}
use Rattle.std.specs.Int.{bit_at}
use Rattle.std.specs.Bool.{beq}
use Rattle.std.specs.Cmp.Lexicographic.{pointwise}

-- the bit of n at place i, counted from 0 on the right
abbrev pub bit : ℕ → ℕ → Bool
bit n i = nat_eq (bit_at n i) 1

-- the lowest bits of n, as many as the width, the highest of them first
unfoldable pub bits_of : ℕ → ℕ → List Bool
bits_of zero n = []
bits_of (suc width) n = bit n width ∷ bits_of width n

-- the number that one bit spells
abbrev pub bit_value : Bool → ℕ
bit_value true = 1
bit_value false = 0

-- the number that the bits spell
unfoldable pub number_of : List Bool → ℕ
number_of [] = 0
number_of (b ∷ bs) = bit_value b * 2 ^ length bs + number_of bs

-- whether the two differ
abbrev pub xor : Bool → Bool → Bool
xor true b = not b
xor false b = b

-- bit by bit, as far as both lists go
abbrev pub zip_bits : (Bool → Bool → Bool) → List Bool → List Bool → List Bool
zip_bits op [] ys = []
zip_bits op (x ∷ xs) [] = []
zip_bits op (x ∷ xs) (y ∷ ys) = op x y ∷ zip_bits op xs ys

abbrev pub xor_bits : List Bool → List Bool → List Bool
xor_bits xs ys = zip_bits xor xs ys

abbrev pub and_bits : List Bool → List Bool → List Bool
and_bits xs ys = zip_bits ◌&&◌ xs ys

abbrev pub not_bits : List Bool → List Bool
not_bits bs = map not bs

-- whether two lists are the same bits
abbrev pub same_bits : List Bool → List Bool → Bool
same_bits xs ys = pointwise beq xs ys
