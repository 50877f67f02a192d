-- Sums and products of bits.
use Rattle.std.proofs.Common.{◌≡◌, Bool, true, false, not, ◌&&◌, ◌||◌, [], ◌∷◌, length, refl, ap₂, arith}
use Rattle.ipdl_base.specs.Bits.{xor, zip_bits, xor_bits, same_bits}
use Rattle.ipdl_term.specs.Terms.{Value}
use Rattle.ipdl_linear.specs.FormValues.{are_zero}

pub xor_twice : (x y : Bool) → xor x (xor x y) ≡ y
xor_twice true true = refl
xor_twice true false = refl
xor_twice false y = refl

pub xor_past : (x y z : Bool) → xor x (xor y z) ≡ xor y (xor x z)
xor_past true true z = refl
xor_past true false z = refl
xor_past false y z = refl

pub xor_assoc : (x y z : Bool) → xor x (xor y z) ≡ xor (xor x y) z
xor_assoc true true true = refl
xor_assoc true true false = refl
xor_assoc true false z = refl
xor_assoc false y z = refl

pub xor_true : (x : Bool) → xor x true ≡ not x
xor_true true = refl
xor_true false = refl

pub xor_false : (x : Bool) → xor x false ≡ x
xor_false true = refl
xor_false false = refl

pub and_itself : (x : Bool) → (x && x) ≡ x
and_itself true = refl
and_itself false = refl

pub and_false : (x : Bool) → (x && false) ≡ false
and_false true = refl
and_false false = refl

pub and_true : (x : Bool) → (x && true) ≡ x
and_true true = refl
and_true false = refl

pub and_comm : (x y : Bool) → (x && y) ≡ (y && x)
and_comm true true = refl
and_comm true false = refl
and_comm false true = refl
and_comm false false = refl

-- what both of two tests give
pub either : {P : Type 0} (x y : Bool) → (x || y) ≡ true → (x ≡ true → P) → (y ≡ true → P) → P
either true y h f g = f refl
either false y h f g = g h

-- of two alternatives that a test tells apart
pub by_test : {P : Type 0} (b : Bool) → (b ≡ true → P) → (b ≡ false → P) → P
by_test true f g = f refl
by_test false f g = g refl

-- one where the test holds, bit by bit
pub zip_choice_true : (v w : Value) → length v ≡ length w → zip_bits (λ x y. xor y (true && xor x y)) v w ≡ v
zip_choice_true [] w h = refl
zip_choice_true (x ∷ v) [] h = absurd (omega arith)
zip_choice_true (x ∷ v) (y ∷ w) h = ap₂ (λ a b. a ∷ b) (first x y) (zip_choice_true v w (omega arith))
  where
    first : (x y : Bool) → xor y (xor x y) ≡ x
    first true true = refl
    first true false = refl
    first false true = refl
    first false false = refl

-- and the other where it does not
pub zip_choice_false : (v w : Value) → length v ≡ length w → zip_bits (λ x y. xor y (false && xor x y)) v w ≡ w
zip_choice_false [] [] h = refl
zip_choice_false [] (y ∷ w) h = absurd (omega arith)
zip_choice_false (x ∷ v) [] h = absurd (omega arith)
zip_choice_false (x ∷ v) (y ∷ w) h = ap₂ (λ a b. a ∷ b) (xor_false y) (zip_choice_false v w (omega arith))

-- two values are the same where their sum is zero
pub same_bits_by_sum : (v w : Value) → length v ≡ length w → same_bits v w ≡ are_zero (xor_bits v w)
same_bits_by_sum [] [] h = refl
same_bits_by_sum [] (y ∷ w) h = absurd (omega arith)
same_bits_by_sum (x ∷ v) [] h = absurd (omega arith)
same_bits_by_sum (true ∷ v) (true ∷ w) h = same_bits_by_sum v w (omega arith)
same_bits_by_sum (true ∷ v) (false ∷ w) h = refl
same_bits_by_sum (false ∷ v) (true ∷ w) h = refl
same_bits_by_sum (false ∷ v) (false ∷ w) h = same_bits_by_sum v w (omega arith)

pub and_both : (x y : Bool) → x ≡ true → y ≡ true → (x && y) ≡ true
and_both true y h g = g
and_both false y h g = h

pub or_true : (x : Bool) → (x || true) ≡ true
or_true true = refl
or_true false = refl
