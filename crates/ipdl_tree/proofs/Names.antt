-- Names, character by character.
use Rattle.std.proofs.Common.{◌≡◌, ℕ, ◌+◌, ◌<◌, ◌≤◌, Bool, true, false, ◌&&◌, leb, List, [], ◌∷◌, ◌++◌, length, refl, sym, ap, ◌∙◌, arith}
use Rattle.std.specs.List.{list_all}
use Rattle.std.specs.Char.{len_utf8, IsScalar, encode_utf8}
use Rattle.std.specs.Str.{is_utf8, chars, IsUtf8}
use Rattle.std.proofs.lemmas.Bool.{and_parts}
use Rattle.std.proofs.lemmas.Bool.Decides.{nat_tests}
use Rattle.std.proofs.lemmas.List.{append-nil, length-append}
use Rattle.std.proofs.lemmas.Str.{IsUtf8-from_is_utf8, is_utf8-from_IsUtf8, IsUtf8-encode, IsUtf8-append, chars-append, chars-encodes, chars-nil, length-encode, len_utf8_bounds}
use Rattle.ipdl_base.specs.Names.{starts_name, continues_name, spells_name, is_name}

-- three tests hold
pub and-three : (a b c : Bool) → a ≡ true → b ≡ true → c ≡ true → (a && b && c) ≡ true
and-three true true true p q r = refl
and-three true true false p q r = r
and-three true false c p q r = q
and-three false b c p q r = p

-- an order passes its test
pub le-leb : (m n : ℕ) → m ≤ n → leb m n ≡ true
le-leb m n h = grind (arith, nat_tests)

-- and the test tells the order
pub leb-le : (m n : ℕ) → leb m n ≡ true → m ≤ n
leb-le m n h = grind (arith, nat_tests)

-- what makes a name
pub is_name-parts : (name : List ℕ) → is_name name ≡ true → (is_utf8 name ≡ true) × (length name ≤ 64) × (spells_name (chars name) ≡ true)
unfolding is_name
is_name-parts name e =
    let p = and_parts (is_utf8 name && leb (length name) 64) (spells_name (chars name)) e in
    let q = and_parts (is_utf8 name) (leb (length name) 64) p.0 in
    (q.0, leb-le _ _ q.1, p.1)

-- and these make one
pub is_name-from_parts : (name : List ℕ) → IsUtf8 name → length name ≤ 64 → spells_name (chars name) ≡ true → is_name name ≡ true
unfolding is_name
is_name-from_parts name u l s = and-three _ _ _ (is_utf8-from_IsUtf8 name u) (le-leb _ _ l) s

-- one character of a text
pub chars-encode : (c : ℕ) → IsScalar c → chars (encode_utf8 c) ≡ c ∷ []
chars-encode c s =
    ap chars (sym (append-nil (encode_utf8 c))) ∙ chars-encodes (c ∷ []) (both _ s)
  where
    both : (a : Bool) → a ≡ true → (a && true) ≡ true
    both true e = refl
    both false e = e

-- the first character of a name
pub is_name-first : (c : ℕ) → IsScalar c → starts_name c ≡ true → is_name (encode_utf8 c) ≡ true
is_name-first c s starts =
    let within : length (encode_utf8 c) ≤ 64 = omega (arith, length-encode c, len_utf8_bounds c) in
    is_name-from_parts (encode_utf8 c) (IsUtf8-encode c s) within (rw (chars-encode c s) (both _ starts))
  where
    both : (a : Bool) → a ≡ true → (a && true) ≡ true
    both true e = refl
    both false e = e

list_all-push : (p : ℕ → Bool) (cs : List ℕ) (c : ℕ) → list_all p cs ≡ true → p c ≡ true → list_all p (cs ++ c ∷ []) ≡ true
list_all-push p [] c all one = rw one refl
list_all-push p (d ∷ ds) c all one =
    let q = and_parts (p d) (list_all p ds) all in
    rw (q.0, list_all-push p ds c q.1 one) refl

spells_name-push : (cs : List ℕ) (c : ℕ) → spells_name cs ≡ true → continues_name c ≡ true → spells_name (cs ++ c ∷ []) ≡ true
spells_name-push [] c name next = cc
spells_name-push (d ∷ ds) c name next =
    let q = and_parts (starts_name d) (list_all continues_name ds) name in
    rw (q.0, list_all-push continues_name ds c q.1 next) refl

-- one more character of a name
pub is_name-more : (name : List ℕ) (c : ℕ) → IsScalar c → is_name name ≡ true → continues_name c ≡ true → length name + len_utf8 c ≤ 64 → is_name (name ++ encode_utf8 c) ≡ true
is_name-more name c s name_so_far next within =
    let p = is_name-parts name name_so_far in
    let u = IsUtf8-from_is_utf8 name p.0 in
    let fits : length (name ++ encode_utf8 c) ≤ 64 = omega (arith, length-encode c, length-append name (encode_utf8 c)) in
    let same : chars (name ++ encode_utf8 c) ≡ chars name ++ c ∷ [] = chars-append name (encode_utf8 c) u ∙ ap (λ x. chars name ++ x) (chars-encode c s) in
    is_name-from_parts (name ++ encode_utf8 c) (IsUtf8-append name (encode_utf8 c) u (IsUtf8-encode c s)) fits (rw same (spells_name-push (chars name) c p.2 next))

-- a name has a character
pub length-is_name : (name : List ℕ) → is_name name ≡ true → 0 < length name
length-is_name [] e = absurd (nothing ((is_name-parts [] e).2))
  where
    nothing : spells_name (chars []) ≡ true → ⊥
    nothing h = let k : spells_name [] ≡ true = rw chars-nil at h in cc
length-is_name (b ∷ bs) e = omega arith
