-- Words of small letters and digits are names.
use Rattle.std.proofs.Common.{◌≡◌, ℕ, ◌+◌, ◌^◌, ◌%◌, ◌<◌, ◌≤◌, Bool, true, false, ◌&&◌, ◌||◌, leb, eqb, List, [], ◌∷◌, ◌++◌, length, refl, ap, ◌∙◌, arith}
use Rattle.std.specs.Char.{is_ascii_alphanumeric}
use Rattle.std.specs.Fmt.{decimal}
use Rattle.std.specs.Int.{is_in_range}
use Rattle.std.specs.List.{All, list_all}
use Rattle.std.specs.Str.{IsAscii, is_utf8, chars}
use Rattle.std.proofs.lemmas.Bool.{and_parts}
use Rattle.std.proofs.lemmas.Bool.Decides.{nat_tests}
use Rattle.std.proofs.lemmas.Fmt.{decimal_by_steps, length-decimal-le}
use Rattle.std.proofs.lemmas.List.Elements.{All-nil, All-cons}
use Rattle.std.proofs.lemmas.List.Folds.{list_all-append}
use Rattle.std.proofs.lemmas.Str.{chars-IsAscii, IsUtf8-from_ascii, is_utf8-from_IsUtf8}
use Rattle.std.proofs.lemmas.Str.Ascii.{IsAscii-from_all}
use Rattle.unicode_ident.specs.Ident.{is_xid_start}
use Rattle.unicode_ident.proofs.IdentLemmas.{is_xid_start-ascii, is_xid_continue-ascii}
use Rattle.ipdl_base.specs.Names.{starts_name, continues_name, spells_name, is_name}
use Rattle.ipdl_printing.specs.Printing.{binder_name}

-- a small letter, or a digit
abbrev pub is_small : ℕ → Bool
is_small c = is_in_range 97 122 c || is_in_range 48 57 c

-- a small letter, and then such characters
abbrev pub is_plain : List ℕ → Bool
is_plain [] = false
is_plain (c ∷ cs) = is_in_range 97 122 c && list_all is_small cs

-- ---- tests

true_and : (a b : Bool) → a ≡ true → b ≡ true → (a && b) ≡ true
true_and true b p q = q
true_and false b p q = p

true_left : (a b : Bool) → a ≡ true → (a || b) ≡ true
true_left true b p = refl
true_left false b p = cc

true_right : (a b : Bool) → b ≡ true → (a || b) ≡ true
true_right true b p = refl
true_right false b p = p

range-high : (low high c : ℕ) → is_in_range low high c ≡ true → c ≤ high
range-high low high c e = grind (arith, nat_tests)

small-ascii : (c : ℕ) → is_small c ≡ true → c < 128
small-ascii c e = grind (arith, nat_tests)

letter-small : (c : ℕ) → is_in_range 97 122 c ≡ true → is_small c ≡ true
letter-small c e = true_left (is_in_range 97 122 c) (is_in_range 48 57 c) e

letter-starts : (c : ℕ) → is_in_range 97 122 c ≡ true → starts_name c ≡ true
letter-starts c e =
    true_left (is_xid_start c) (eqb c 95) (is_xid_start-ascii c (small-ascii c (letter-small c e)) ∙ true_right (is_in_range 65 90 c) (is_in_range 97 122 c) e)

-- a small letter or a digit is one of ASCII's letters and digits
small-alphanumeric : (c : ℕ) → is_small c ≡ true → is_ascii_alphanumeric c ≡ true
small-alphanumeric c e = by_tests (is_in_range 48 57 c) (is_in_range 65 90 c) (is_in_range 97 122 c) e
  where
    by_tests : (d u l : Bool) → (l || d) ≡ true → ((d || u) || l) ≡ true
    by_tests true u l h = refl
    by_tests false u true h = true_right u true refl
    by_tests false u false h = cc

small-continues : (c : ℕ) → is_small c ≡ true → continues_name c ≡ true
small-continues c e =
    is_xid_continue-ascii c (small-ascii c e) ∙ true_left (is_ascii_alphanumeric c) (eqb c 95) (small-alphanumeric c e)

-- ---- lists of characters

all-continue : (cs : List ℕ) → list_all is_small cs ≡ true → list_all continues_name cs ≡ true
all-continue [] e = refl
all-continue (c ∷ cs) e =
    let p = and_parts (is_small c) (list_all is_small cs) e in
    true_and (continues_name c) (list_all continues_name cs) (small-continues c p.0) (all-continue cs p.1)

all-ascii : (cs : List ℕ) → list_all is_small cs ≡ true → All (λ b. b < 128) cs
all-ascii [] e = All-nil (λ b. b < 128)
all-ascii (c ∷ cs) e =
    let p = and_parts (is_small c) (list_all is_small cs) e in
    All-cons (λ b. b < 128) c cs (small-ascii c p.0) (all-ascii cs p.1)

plain-ascii : (name : List ℕ) → is_plain name ≡ true → IsAscii name
plain-ascii [] e = cc
plain-ascii (c ∷ cs) e =
    let p = and_parts (is_in_range 97 122 c) (list_all is_small cs) e in
    IsAscii-from_all (c ∷ cs) (All-cons (λ b. b < 128) c cs (small-ascii c (letter-small c p.0)) (all-ascii cs p.1))

plain-spells : (name : List ℕ) → is_plain name ≡ true → spells_name name ≡ true
plain-spells [] e = e
plain-spells (c ∷ cs) e =
    let p = and_parts (is_in_range 97 122 c) (list_all is_small cs) e in
    true_and (starts_name c) (list_all continues_name cs) (letter-starts c p.0) (all-continue cs p.1)

within-test : (n : ℕ) → n ≤ 64 → leb n 64 ≡ true
within-test n h = grind (arith, nat_tests)

and_three : (a b c : Bool) → a ≡ true → b ≡ true → c ≡ true → (a && b && c) ≡ true
and_three true true c p q r = r
and_three true false c p q r = q
and_three false b c p q r = p

pub is_name-plain : (name : List ℕ) → is_plain name ≡ true → length name ≤ 64 → is_name name ≡ true
unfolding is_name
is_name-plain name e short =
    let ascii : IsAscii name = plain-ascii name e in
    and_three (is_utf8 name) (leb (length name) 64) (spells_name (chars name)) (is_utf8-from_IsUtf8 name (IsUtf8-from_ascii name ascii))
    (within-test (length name) short) (ap spells_name (chars-IsAscii name ascii) ∙ plain-spells name e)

-- ---- the names of binders

digit-small : (n : ℕ) → n < 10 → list_all is_small ((48 + n) ∷ []) ≡ true
digit-small n h = grind (arith, nat_tests)

digits-small : (n : ℕ) → n < 2 ^ 64 → list_all is_small (decimal n) ≡ true
digits-small n h =
    decimal_by_steps (λ k ds. list_all is_small ds ≡ true) digit-small more n h
  where
    more : (k : ℕ) (ds : List ℕ) → 10 ≤ k → list_all is_small ds ≡ true → list_all is_small (ds ++ ((48 + k % 10) ∷ [])) ≡ true
    more k ds large all =
        list_all-append is_small ds ((48 + k % 10) ∷ []) ∙ true_and (list_all is_small ds) _ all (digit-small (k % 10) (omega arith))

pub is_name-binder : (d : ℕ) → d < 2 ^ 64 → is_name (binder_name d) ≡ true
is_name-binder d few =
    is_name-plain (binder_name d) (digits-small d few) (omega (arith, length-decimal-le 20 d (omega arith) (omega arith) (omega arith)))

-- a word of small letters and digits, of which both tests compute
pub is_name-word : (name : List ℕ) → (is_plain name && leb (length name) 64) ≡ true → is_name name ≡ true
is_name-word name e =
    let tests = and_parts (is_plain name) (leb (length name) 64) e in
    is_name-plain name tests.0 (leb-within (length name) tests.1)
  where
    leb-within : (n : ℕ) → leb n 64 ≡ true → n ≤ 64
    leb-within n h = grind (arith, nat_tests)
