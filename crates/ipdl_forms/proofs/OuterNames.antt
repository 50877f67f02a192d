-- The names of outer variables: `x` and a number in decimal digits.
use Rattle.std.proofs.Common.{◌≡◌, ℕ, zero, suc, ◌+◌, ◌*◌, ◌-◌, ◌/◌, ◌%◌, ◌^◌, ◌<◌, ◌≤◌, ◌==◌, Bool, true, false, ◌&&◌, not, List, [], ◌∷◌, ◌++◌, Option, Some, None, if◌then◌else◌, refl, sym, ap, subst, ◌∙◌, append_assoc, arith}
use Rattle.std.specs.Prelude.{nat_le, nat_lt, codes}
use Rattle.std.specs.Fmt.{decimal}
use Rattle.std.proofs.lemmas.Bool.{and_parts, le-leb, lt-ltb, leb-true, ltb-true, eqb-true}
use Rattle.std.proofs.lemmas.Bool.Decides.{nat_tests}
use Rattle.std.proofs.lemmas.Fmt.{decimal_by_steps, decimal_digit, decimal_step}
use Rattle.std.proofs.lemmas.List.{append-nil}
use Rattle.ipdl_forms.specs.Scopes.{is_digit, number_on, number_spelled, outer_number}

-- ---- tests

-- a result that a test lets through
let_through : (b : Bool) (next : Option ℕ) (n : ℕ) → (if b then next else None) ≡ Some n → (b ≡ true) × (next ≡ Some n)
let_through true next n is = (refl, is)
let_through false next n is = cc

-- where the test holds
where_true : (b : Bool) (next goal : Option ℕ) → b ≡ true → next ≡ goal → (if b then next else None) ≡ goal
where_true true next goal holds is = is
where_true false next goal holds is = cc

three_hold : (a b c : Bool) → a ≡ true → b ≡ true → c ≡ true → (a && (b && c)) ≡ true
three_hold a b c one two three = rw (one, two, three) refl

some_test : (n : ℕ) → not (n == 0) ≡ true → 0 < n
some_test zero is = cc
some_test (suc n) is = omega arith

test_some : (n : ℕ) → 0 < n → not (n == 0) ≡ true
test_some n some = grind (arith, nat_tests)

is_digit-range : (c : ℕ) → is_digit c ≡ true → (48 ≤ c) × (c ≤ 57)
is_digit-range c is =
    let both = and_parts (nat_le 48 c) (nat_le c 57) is in (leb-true 48 c both.0, leb-true c 57 both.1)

is_digit-of : (m : ℕ) → m < 10 → is_digit (48 + m) ≡ true
is_digit-of m small = rw (le-leb 48 (48 + m) (omega arith), le-leb (48 + m) 57 (omega arith)) refl

-- ---- what digits spell is written with them

-- one more digit
decimal-push : (v r : ℕ) → 0 < v → r < 10 → 10 * v + r < 2 ^ 32 → decimal (10 * v + r) ≡ decimal v ++ (48 + r) ∷ []
decimal-push v r some small below =
    let quotient : (10 * v + r) / 10 ≡ v = omega arith in
    let remainder : (10 * v + r) % 10 ≡ r = omega arith in
    decimal_step (10 * v + r) (omega arith) (omega arith) ∙ ap (λ q. decimal q ++ (48 + (10 * v + r) % 10) ∷ []) quotient ∙ ap (λ x. decimal v ++ (48 + x) ∷ []) remainder

number_on-decimal : (v : ℕ) (ds : List ℕ) (n : ℕ) → v < 2 ^ 32 → number_on v ds ≡ Some n → (decimal v ++ ds ≡ decimal n) × (n < 2 ^ 32)
number_on-decimal v [] n small is =
    let same : v ≡ n = cc in (append-nil (decimal v) ∙ ap decimal same, subst (λ x. x < 2 ^ 32) same small)
number_on-decimal v (d ∷ ds) n small is =
    let next = 10 * v + (d - 48) in
    let test = let_through (is_digit d && (not (v == 0) && nat_lt next (2 ^ 32))) (number_on next ds) n is in
    let parts = and_parts (is_digit d) (not (v == 0) && nat_lt next (2 ^ 32)) test.0 in
    let more = and_parts (not (v == 0)) (nat_lt next (2 ^ 32)) parts.1 in
    let range = is_digit-range d parts.0 in
    let below : next < 2 ^ 32 = ltb-true next (2 ^ 32) more.1 in
    let digit : 48 + (d - 48) ≡ d = omega (arith, range.0) in
    let pushed : decimal next ≡ decimal v ++ d ∷ [] = decimal-push v (d - 48) (some_test v more.0) (omega (arith, range.1)) below ∙ ap (λ x. decimal v ++ x ∷ []) digit in
    let rest = number_on-decimal next ds n below test.1 in
    (sym (append_assoc (decimal v) (d ∷ []) ds) ∙ ap (λ x. x ++ ds) (sym pushed) ∙ rest.0, rest.1)

number_spelled-decimal : (ds : List ℕ) (n : ℕ) → number_spelled ds ≡ Some n → (ds ≡ decimal n) × (n < 2 ^ 32)
number_spelled-decimal [] n is = cc
number_spelled-decimal (d ∷ ds) n is =
    let test = let_through (is_digit d) (number_on (d - 48) ds) n is in
    let range = is_digit-range d test.0 in
    let digit : 48 + (d - 48) ≡ d = omega (arith, range.0) in
    let one : decimal (d - 48) ≡ d ∷ [] = decimal_digit (d - 48) (omega (arith, range.1)) ∙ ap (λ x. x ∷ []) digit in
    let rest = number_on-decimal (d - 48) ds n (omega (arith, range.1)) test.1 in
    (ap (λ x. x ++ ds) (sym one) ∙ rest.0, rest.1)

-- ---- the digits of a number spell it

number_on-append : (v : ℕ) (ds es : List ℕ) (m : ℕ) → number_on v ds ≡ Some m → number_on v (ds ++ es) ≡ number_on m es
number_on-append v [] es m is = let same : v ≡ m = cc in ap (λ x. number_on x es) same
number_on-append v (d ∷ ds) es m is =
    let next = 10 * v + (d - 48) in
    let all = is_digit d && (not (v == 0) && nat_lt next (2 ^ 32)) in
    let test = let_through all (number_on next ds) m is in
    where_true all (number_on next (ds ++ es)) (number_on m es) test.0 (number_on-append next ds es m test.1)

number_spelled-append : (ds es : List ℕ) (m : ℕ) → number_spelled ds ≡ Some m → number_spelled (ds ++ es) ≡ number_on m es
number_spelled-append [] es m is = cc
number_spelled-append (d ∷ ds) es m is =
    let test = let_through (is_digit d) (number_on (d - 48) ds) m is in
    where_true (is_digit d) (number_on (d - 48) (ds ++ es)) (number_on m es) test.0 (number_on-append (d - 48) ds es m test.1)

one_more : (v r n : ℕ) → 0 < v → r < 10 → 10 * v + r ≡ n → n < 2 ^ 32 → number_on v ((48 + r) ∷ []) ≡ Some n
one_more v r n some small whole fits =
    let next = 10 * v + (48 + r - 48) in
    let is : next ≡ n = omega (arith, whole) in
    where_true (is_digit (48 + r) && (not (v == 0) && nat_lt next (2 ^ 32))) (Some next) (Some n)
    (three_hold (is_digit (48 + r)) (not (v == 0)) (nat_lt next (2 ^ 32)) (is_digit-of r small) (test_some v some) (lt-ltb next (2 ^ 32) (omega (arith, is, fits))))
    (ap Some is)

decimal-number_spelled : (n : ℕ) → n < 2 ^ 32 → number_spelled (decimal n) ≡ Some n
decimal-number_spelled n below =
    decimal_by_steps (λ m text. m < 2 ^ 32 → number_spelled text ≡ Some m)
    (λ m small fits. where_true (is_digit (48 + m)) (Some (48 + m - 48)) (Some m) (is_digit-of m small) (ap Some (omega arith)))
    (λ m digits large before fits.
    number_spelled-append digits ((48 + m % 10) ∷ []) (m / 10) (before (omega arith))
    ∙ one_more (m / 10) (m % 10) m (omega arith) (omega arith) (omega arith) fits)
    n (omega arith) below

-- ---- names

pub outer_number-name : (name : List ℕ) (n : ℕ) → outer_number name ≡ Some n → (name ≡ codes "x" ++ decimal n) × (n < 2 ^ 32)
outer_number-name [] n is = cc
outer_number-name (c ∷ digits) n is =
    let test = let_through (c == 120) (number_spelled digits) n is in
    let letter : c ≡ 120 = eqb-true c 120 test.0 in
    let rest = number_spelled-decimal digits n test.1 in
    (ap (λ x. x ∷ digits) letter ∙ ap (λ x. 120 ∷ x) rest.0, rest.1)

pub outer_number-decimal : (name : List ℕ) (n : ℕ) → name ≡ codes "x" ++ decimal n → n < 2 ^ 32 → outer_number name ≡ Some n
outer_number-decimal name n is below = ap outer_number is ∙ decimal-number_spelled n below
