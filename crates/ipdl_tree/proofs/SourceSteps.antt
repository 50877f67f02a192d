-- A whole source: its text, and then its end.
use Rattle.std.proofs.Common.{◌≡◌, ℕ, ◌+◌, ◌<◌, ◌≤◌, true, false, if◌then◌else◌, eqb, ◌==◌, Option, List, [], ◌∷◌, length, take, Result, Ok, Err, refl, sym, ap, ◌∙◌, subst, arith}
use Rattle.std.specs.Char.{len_utf8, encode_utf8}
use Rattle.std.specs.Str.{IsUtf8, chars, encode_utf8_all}
use Rattle.std.specs.Str.Lossy.{utf8_valid_len}
use Rattle.std.proofs.lemmas.Bool.Decides.{nat_tests}
use Rattle.std.proofs.lemmas.List.{length-append, length-take-le}
use Rattle.std.proofs.lemmas.Str.{length-encode, encodes-chars, utf8_valid_len_le}
use Rattle.ipdl_tree.specs.declared.fault.TreeFault.{TreeFault}
use Rattle.ipdl_tree.specs.declared.fault.TreeFault.TheVariants.{Spell, Deep, Memory}
use Rattle.ipdl_tree.specs.Trees.{Located}
use Rattle.ipdl_tree.specs.Causes.{Cause, bad_byte}
use Rattle.ipdl_tree.specs.Reading.{Reading, nothing_read, refusal_of, step, read_on, read_source, finish, ◌>>=◌}
use Rattle.ipdl_tree.specs.Faults.{Fails}

eqb-same : (m n : ℕ) → m ≡ n → eqb m n ≡ true
eqb-same m n e = grind (arith, nat_tests)

eqb-less : (m n : ℕ) → m < n → eqb m n ≡ false
eqb-less m n h = grind (arith, nat_tests)

bind-bind : {A B C : Type 0} (x : Result A (ℕ × Cause)) (f : A → Result C (ℕ × Cause)) (g : A → Result B (ℕ × Cause)) (h : B → Result C (ℕ × Cause)) → ((y : A) → f y ≡ (g y >>= h)) → (x >>= f) ≡ ((x >>= g) >>= h)
bind-bind (Ok x) f g h same = same x
bind-bind (Err e) f g h same = refl

-- the characters are read, and then their end
pub read_on-end : {A : Type 0} (refuse : Reading → ℕ → Option Cause) (r : Reading) (offset : ℕ) (cs : List ℕ) (at_end : Reading → ℕ → Result A (ℕ × Cause)) → read_on refuse r offset cs at_end ≡ (read_on refuse r offset cs (λ q _. Ok q) >>= λ q. at_end q (offset + length (encode_utf8_all cs)))
read_on-end refuse r offset [] at_end = ap (at_end r) (omega arith)
read_on-end refuse r offset (c ∷ cs) at_end =
    let past : offset + len_utf8 c + length (encode_utf8_all cs) ≡ offset + length (encode_utf8_all (c ∷ cs)) = omega (arith, length-append (encode_utf8 c) (encode_utf8_all cs), length-encode c) in
    bind-bind (step refuse r offset c) _ (λ next. read_on {A = Reading} refuse next (offset + len_utf8 c) cs (λ q _. Ok q)) (λ q. at_end q (offset + length (encode_utf8_all (c ∷ cs))))
    (λ next. read_on-end refuse next (offset + len_utf8 c) cs at_end ∙ ap (λ n. read_on {A = Reading} refuse next (offset + len_utf8 c) cs (λ q _. Ok q) >>= λ q. at_end q n) past)

abbrev collected : List ℕ → Result Reading (ℕ × Cause)
collected text = read_on refusal_of nothing_read 0 (chars text) (λ q _. Ok q)

-- what the end of the text gives
abbrev ending : List ℕ → ℕ → Reading → Result Located (ℕ × Cause)
ending source n q = if utf8_valid_len source == length source then finish q n else Err (n, bad_byte)

read_source-end : (source text : List ℕ) → text ≡ take (utf8_valid_len source) source → IsUtf8 text → read_source source ≡ (collected text >>= ending source (length text))
unfolding read_source
read_source-end source text e u =
    ap (λ t. read_on refusal_of nothing_read 0 (chars t) (λ q n. ending source n q)) (sym e)
    ∙ read_on-end refusal_of nothing_read 0 (chars text) (λ q n. ending source n q)
    ∙ ap (λ n. collected text >>= ending source n) (omega (arith, ap length (encodes-chars text u)))

length-text : (source text : List ℕ) → text ≡ take (utf8_valid_len source) source → length text ≡ utf8_valid_len source
length-text source text e = ap length e ∙ length-take-le (utf8_valid_len source) source (utf8_valid_len_le source)

-- the source is text
pub read_source-text : (source text : List ℕ) (q : Reading) → text ≡ take (utf8_valid_len source) source → IsUtf8 text → collected text ≡ Ok q → length source ≤ length text → read_source source ≡ finish q (length text)
read_source-text source text q e u all whole =
    let n = length-text source text e in
    let same : eqb (utf8_valid_len source) (length source) ≡ true = eqb-same _ _ (omega (arith, n, utf8_valid_len_le source)) in
    read_source-end source text e u
    ∙ ap (λ x. x >>= ending source (length text)) all
    ∙ ap (λ b. if b then finish q (length text) else Err (length text, bad_byte)) same

-- a byte begins no character
pub read_source-broken : (source text : List ℕ) (q : Reading) → text ≡ take (utf8_valid_len source) source → IsUtf8 text → collected text ≡ Ok q → length text < length source → read_source source ≡ Err (length text, bad_byte)
read_source-broken source text q e u all broken =
    let n = length-text source text e in
    let other : eqb (utf8_valid_len source) (length source) ≡ false = eqb-less _ _ (omega (arith, n)) in
    read_source-end source text e u
    ∙ ap (λ x. x >>= ending source (length text)) all
    ∙ ap (λ b. if b then finish q (length text) else Err (length text, bad_byte)) other

Fails-bind : {A B : Type 0} (e : TreeFault) (r : Result A (ℕ × Cause)) (f : A → Result B (ℕ × Cause)) → Fails e r → Fails e (r >>= f)
Fails-bind (Spell p cause) r f h = ap (λ s. s >>= f) h
Fails-bind (Deep p) r f h = ap (λ s. s >>= f) h
Fails-bind Memory r f h = tt

-- a character is refused
pub Fails-source : (fault : TreeFault) (source text : List ℕ) → text ≡ take (utf8_valid_len source) source → IsUtf8 text → Fails fault (collected text) → Fails fault (read_source source)
Fails-source fault source text e u refused =
    let P : Result Located (ℕ × Cause) → Type 0 = Fails fault in
    subst P (sym (read_source-end source text e u)) (Fails-bind fault (collected text) (ending source (length text)) refused)
