-- Small worked rows of the definitions.
use Rattle.std.proofs.Common.{◌≡◌, true, false, [], ◌∷◌, ◌++◌, take, drop, refl}
use Rattle.ipdl_base.specs.Bits.{bits_of, number_of, xor_bits, and_bits, not_bits, same_bits}

-- 3 in three bits is 011, and in none it is nothing
bits_of-three : bits_of 3 3 ≡ false ∷ true ∷ true ∷ []
unfolding bits_of
bits_of-three = refl

bits_of-none : bits_of 0 3 ≡ []
unfolding bits_of
bits_of-none = refl

-- 011 is 3, and 100 is 4
number_of-011 : number_of (false ∷ true ∷ true ∷ []) ≡ 3
unfolding number_of
number_of-011 = refl

number_of-100 : number_of (true ∷ false ∷ false ∷ []) ≡ 4
unfolding number_of
number_of-100 = refl

-- the four pairs of bits at once: 0011 and 0101
xor_bits-row : xor_bits (false ∷ false ∷ true ∷ true ∷ []) (false ∷ true ∷ false ∷ true ∷ []) ≡ false ∷ true ∷ true ∷ false ∷ []
xor_bits-row = refl

and_bits-row : and_bits (false ∷ false ∷ true ∷ true ∷ []) (false ∷ true ∷ false ∷ true ∷ []) ≡ false ∷ false ∷ false ∷ true ∷ []
and_bits-row = refl

not_bits-row : not_bits (false ∷ true ∷ true ∷ []) ≡ true ∷ false ∷ false ∷ []
not_bits-row = refl

-- the width counts: 01 and 1 are not the same
same_bits-row : same_bits (false ∷ true ∷ []) (true ∷ []) ≡ false
same_bits-row = refl

-- the first two bits of 011 are 01, and the last two 11
take-row : take 2 (drop 0 (false ∷ true ∷ true ∷ [])) ≡ false ∷ true ∷ []
take-row = refl

drop-row : take 2 (drop 1 (false ∷ true ∷ true ∷ [])) ≡ true ∷ true ∷ []
drop-row = refl

-- 01 and then 1 is 011
append-row : (false ∷ true ∷ []) ++ (true ∷ []) ≡ false ∷ true ∷ true ∷ []
append-row = refl
