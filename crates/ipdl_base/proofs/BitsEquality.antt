-- The test of two lists of bits, and the tests of their widths and numbers.
use Rattle.std.proofs.Common.{◌≡◌, ℕ, ◌^◌, ◌<◌, Bool, List, length, refl, sym, ◌∙◌, ap}
use Rattle.std.specs.Prelude.{IsTrue, ◌↔◌, nat_eq}
use Rattle.std.specs.Bool.{beq}
use Rattle.std.specs.Cmp.{unsigned_Decides}
use Rattle.std.specs.Cmp.Lexicographic.{unequal}
use Rattle.std.proofs.lemmas.Bool.{false_from_ne_true, eqb-true}
use Rattle.std.proofs.lemmas.Bool.Decides.{same_from_decides}
use Rattle.ipdl_base.specs.Bits.{bits_of, same_bits}
use Rattle.ipdl_base.specs.BitsLaws.{same_bits-Decides}
use Rattle.ipdl_base.proofs.BitsNumbers.{bits_of-injective, width_from_bits}

-- an answer of the test tells whether the lists are equal
pub same_bits-told : (xs ys : List Bool) (answer : Bool) → answer ≡ same_bits xs ys → IsTrue answer ↔ (xs ≡ ys)
same_bits-told xs ys answer is =
    let d = same_bits-Decides xs ys in
    (λ t. d.0 (sym is ∙ t), λ e. is ∙ d.1 e)

-- at one width the numbers tell
same_bits-bits_of : (width a b : ℕ) → a < 2 ^ width → b < 2 ^ width → same_bits (bits_of width a) (bits_of width b) ≡ nat_eq a b
same_bits-bits_of width a b a_below b_below =
    let d = same_bits-Decides (bits_of width a) (bits_of width b) in
    let e = unsigned_Decides a b in
    same_from_decides (same_bits (bits_of width a) (bits_of width b)) (nat_eq a b)
    (λ t. bits_of-injective width a b a_below b_below (d.0 t), λ t. d.1 (ap (bits_of width) t)) e

-- the test of the numbers, where the widths are equal
pub same_bits_by_number : (w a v b : ℕ) (xs ys : List Bool) → bits_of w a ≡ xs → bits_of v b ≡ ys → a < 2 ^ w → b < 2 ^ v → w ≡ v → nat_eq a b ≡ same_bits xs ys
same_bits_by_number w a v b xs ys xs_are ys_are a_below b_below same_width =
    let below : b < 2 ^ w = rw same_width b_below in
    let other : bits_of w b ≡ ys = rw same_width ys_are in
    sym (same_bits-bits_of w a b a_below below) ∙ (rw (xs_are, other) refl)

-- the test of the widths, where they are not
pub same_bits_by_width : (w a v b : ℕ) (xs ys : List Bool) → bits_of w a ≡ xs → bits_of v b ≡ ys → (w ≡ v → ⊥) → nat_eq w v ≡ same_bits xs ys
same_bits_by_width w a v b xs ys xs_are ys_are other_width =
    let other_length : length xs ≡ length ys → ⊥ = λ l. other_width (width_from_bits w a xs xs_are ∙ l ∙ sym (width_from_bits v b ys ys_are)) in
    false_from_ne_true (nat_eq w v) (λ t. other_width (eqb-true w v t)) ∙ sym (unequal beq xs ys other_length)
