-- Facts on single characters: which ones pass the tests, and how they are encoded.
use Rattle.std.proofs.Common.{◌≡◌, ℕ, suc, ◌+◌, ◌*◌, ◌<◌, ◌≤◌, ◌^◌, ◌/◌, ◌%◌, Bool, true, false, ◌||◌, eqb, leb, List, [], ◌∷◌, ◌++◌, length, get_or, ◌⊎◌, inl, inr, ⊎_elim, refl, sym, ap, ◌∙◌, arith}
use Rattle.std.specs.Char.{encode_utf8}
use Rattle.std.specs.Fmt.{decimal}
use Rattle.std.proofs.lemmas.Bool.{and_parts}
use Rattle.std.proofs.lemmas.Bool.Decides.{nat_tests}
use Rattle.std.proofs.lemmas.Fmt.{decimal_step}
use Rattle.std.proofs.lemmas.List.{append-nil}
use Rattle.std.proofs.lemmas.Str.{inside_one}
use Rattle.ipdl_tree.specs.Spelling.{is_blank, ends_token, bit_digit, HasNoLineFeed}
use Rattle.ipdl_tree.specs.Characters.{is_digit}
use Rattle.ipdl_tree.proofs.Names.{leb-le}

-- one of two tests holds
pub or-cases : (a b : Bool) → (a || b) ≡ true → (a ≡ true) ⊎ (b ≡ true)
or-cases true b e = inl refl
or-cases false b e = inr e

-- numbers that a test finds equal are equal
pub eqb-same : (m n : ℕ) → eqb m n ≡ true → m ≡ n
eqb-same m n e = grind (arith, nat_tests)

-- one more than a number is not zero
pub eqb-suc-zero : (n : ℕ) → eqb (suc n) 0 ≡ false
eqb-suc-zero n = grind (arith, nat_tests)

-- a blank is ASCII
pub is_blank-ascii : (c : ℕ) → is_blank c ≡ true → c < 128
is_blank-ascii c e =
    ⊎_elim (λ h. omega (arith, eqb-same c 32 h)) (λ k.
    ⊎_elim (λ h. omega (arith, eqb-same c 9 h)) (λ l.
    ⊎_elim (λ h. omega (arith, eqb-same c 10 h)) (λ h. omega (arith, eqb-same c 13 h)) (or-cases (eqb c 10) (eqb c 13) l))
    (or-cases (eqb c 9) (eqb c 10 || eqb c 13) k)) (or-cases (eqb c 32) (eqb c 9 || (eqb c 10 || eqb c 13)) e)

-- what ends a token is ASCII
pub ends_token-ascii : (c : ℕ) → ends_token c ≡ true → c < 128
ends_token-ascii c e =
    ⊎_elim (λ h. is_blank-ascii c h) (λ k.
    ⊎_elim (λ h. omega (arith, eqb-same c 40 h)) (λ l.
    ⊎_elim (λ h. omega (arith, eqb-same c 41 h)) (λ h. omega (arith, eqb-same c 59 h)) (or-cases (eqb c 41) (eqb c 59) l))
    (or-cases (eqb c 40) (eqb c 41 || eqb c 59) k)) (or-cases (is_blank c) (eqb c 40 || (eqb c 41 || eqb c 59)) e)

-- a digit lies between `0` and `9`
pub is_digit-range : (c : ℕ) → is_digit c ≡ true → (48 ≤ c) × (c ≤ 57)
is_digit-range c e = let p = and_parts (leb 48 c) (leb c 57) e in (leb-le _ _ p.0, leb-le _ _ p.1)

-- a bit is told by its digit
pub bit_digit-eqb : (c : ℕ) → (eqb c 48 || eqb c 49) ≡ true → bit_digit (eqb c 49) ≡ c
bit_digit-eqb c e =
    ⊎_elim (λ h. ap (λ x. bit_digit (eqb x 49)) (eqb-same c 48 h) ∙ sym (eqb-same c 48 h)) (λ h. ap (λ x. bit_digit (eqb x 49)) (eqb-same c 49 h) ∙ sym (eqb-same c 49 h)) (or-cases (eqb c 48) (eqb c 49) e)

-- a bit is ASCII
pub bit-ascii : (c : ℕ) → (eqb c 48 || eqb c 49) ≡ true → c < 128
bit-ascii c e = ⊎_elim (λ h. omega (arith, eqb-same c 48 h)) (λ h. omega (arith, eqb-same c 49 h)) (or-cases (eqb c 48) (eqb c 49) e)

-- ---- decimal digits

-- one more digit
pub decimal-push : (value digit : ℕ) → 0 < value → digit < 10 → 10 * value + digit < 2 ^ 32 → decimal (10 * value + digit) ≡ decimal value ++ (48 + digit) ∷ []
decimal-push value digit some small below =
    let quotient : (10 * value + digit) / 10 ≡ value = omega arith in
    let remainder : (10 * value + digit) % 10 ≡ digit = omega arith in
    decimal_step (10 * value + digit) (omega arith) (omega arith) ∙ ap (λ q. decimal q ++ (48 + (10 * value + digit) % 10) ∷ []) quotient ∙ ap (λ r. decimal value ++ (48 + r) ∷ []) remainder

-- ---- line feeds

eqb-other : (m n : ℕ) → (m ≡ n → ⊥) → eqb m n ≡ false
eqb-other m n h = grind (arith, nat_tests)

-- two texts without line feed, one after the other
pub HasNoLineFeed-append : (a b : List ℕ) → HasNoLineFeed a → HasNoLineFeed b → HasNoLineFeed (a ++ b)
HasNoLineFeed-append [] b h k = k
HasNoLineFeed-append (x ∷ a) b h k = (h.0, HasNoLineFeed-append a b h.1 k)

HasNoLineFeed-from_bytes : (bs : List ℕ) → ((k : ℕ) → k < length bs → get_or bs k 0 ≡ 10 → ⊥) → HasNoLineFeed bs
HasNoLineFeed-from_bytes [] h = tt
HasNoLineFeed-from_bytes (b ∷ bs) h = (eqb-other b 10 (h 0 (omega arith)), HasNoLineFeed-from_bytes bs (λ k below e. h (suc k) (omega arith) e))

-- another character has no line feed in it
pub HasNoLineFeed-encode : (c : ℕ) → eqb c 10 ≡ false → HasNoLineFeed (encode_utf8 c)
HasNoLineFeed-encode c other =
    HasNoLineFeed-from_bytes (encode_utf8 c) (λ k below e. line_feed (inside_one c [] (encode_utf8 c) k (sym (append-nil (encode_utf8 c))) below (omega (arith, e)) ∙ e))
  where
    line_feed : c ≡ 10 → ⊥
    line_feed e = let same : eqb c 10 ≡ true = ap (λ x. eqb x 10) e in cc
