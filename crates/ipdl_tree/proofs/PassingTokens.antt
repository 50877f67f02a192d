-- Reading goes through tokens.
use Rattle.std.proofs.Common.{◌≡◌, ℕ, ◌+◌, ◌-◌, ◌*◌, ◌/◌, ◌%◌, ◌<◌, ◌≤◌, ◌^◌, Bool, true, false, ◌||◌, ◌&&◌, not, if◌then◌else◌, eqb, ltb, List, [], ◌∷◌, ◌++◌, length, map, codes, Some, None, Result, refl, sym, ap, ap₂, ◌∙◌, subst, arith}
use Rattle.std.specs.Char.{len_utf8, encode_utf8}
use Rattle.std.specs.List.{list_all}
use Rattle.std.specs.Fmt.{decimal}
use Rattle.std.specs.Str.{chars, encode_utf8_all, all_scalars}
use Rattle.std.proofs.Math.Utf8.{low_scalar}
use Rattle.std.proofs.lemmas.Bool.{and_parts}
use Rattle.std.proofs.lemmas.Bool.Decides.{nat_tests}
use Rattle.std.proofs.lemmas.Fmt.{decimal_by_steps}
use Rattle.std.proofs.lemmas.List.{append_assoc, append-nil, length-append}
use Rattle.std.proofs.lemmas.Str.{encode_ascii, length-encode, encodes-chars, scalars-chars, IsUtf8-from_is_utf8}
use Rattle.ipdl_base.specs.Names.{starts_name, continues_name, spells_name, is_name}
use Rattle.ipdl_tree.specs.declared.character.Beginning.TheVariants.{Number, Literal, Word}
use Rattle.ipdl_tree.specs.Trees.{Located, word, number, literal}
use Rattle.ipdl_tree.specs.Causes.{Cause, bad_byte, bad_name}
use Rattle.ipdl_tree.specs.Characters.{is_digit, beginning_of}
use Rattle.ipdl_tree.specs.Reading.{continues, refusal_within, Token, no_token, open_name, open_number, open_literal, Group, Reading, add_to, tree_of, after_beginning, after, unless, read_on, whole, finish, ◌>>=◌}
use Rattle.ipdl_tree.specs.Spelling.{ends_token, bit_digit, EndsToken}
use Rattle.ipdl_tree.proofs.Names.{is_name-parts, le-leb}
use Rattle.ipdl_tree.proofs.Starts.{name_ends, number_ends, literal_ends, beginning-number, beginning-word}
use Rattle.ipdl_tree.proofs.Passing.{Refuse, Allows, run, at, Passes, Anything, run-step, run-token, Passes-beginning, Passes-then, refusal-beginning}

-- ---- the end of a token

abbrev finish-of : Reading → ℕ → Result Located (ℕ × Cause)
finish-of r offset = whole r.groups r.complete offset

finish-add_to : (u : Located) (gs : List Group) (o : ℕ) → finish (add_to u gs None) o ≡ finish-of (add_to u gs None) o
finish-add_to u [] o = refl
finish-add_to u (g ∷ gs) o = refl

after-add_to : (u : Located) (gs : List Group) (o c : ℕ) → after (add_to u gs None) o c ≡ after_beginning (add_to u gs None) o c (beginning_of c)
after-add_to u [] o c = refl
after-add_to u (g ∷ gs) o c = refl

-- before a byte that ends the token it has ended
run-ended : (refuse : Refuse) (most : ℕ) → Allows refuse most → (token : Token) (u : Located) (gs : List Group) (o : ℕ) (ds : List ℕ) → tree_of token ≡ Some u → finish (at token gs None) o ≡ finish-of (add_to u gs None) o → ((c : ℕ) → ends_token c ≡ true → (continues token c ≡ false) × (after (at token gs None) o c ≡ after_beginning (add_to u gs None) o c (beginning_of c))) → EndsToken ds → run refuse (at token gs None) o ds ≡ run refuse (add_to u gs None) o ds
run-ended refuse most allows token u gs o [] e f goes ends = f ∙ sym (finish-add_to u gs o)
run-ended refuse most allows token u gs o (d ∷ ds) e f goes ends =
    let p = goes d ends in
    ap₂ (λ x r. unless x o r >>= λ next. read_on refuse next (o + len_utf8 d) ds finish) (allows.ending token u gs d e p.0 ends) (p.1 ∙ sym (after-add_to u gs o d))

-- a name has ended
pub run-name : (refuse : Refuse) (most : ℕ) → Allows refuse most → (start : ℕ) (text : List ℕ) (gs : List Group) (o : ℕ) (ds : List ℕ) → EndsToken ds → run refuse (at (open_name start text) gs None) o ds ≡ run refuse (add_to (word start text) gs None) o ds
run-name refuse most allows start text gs o ds =
    run-ended refuse most allows (open_name start text) (word start text) gs o ds refl refl (λ c ends. (name_ends c ends, rw (name_ends c ends) refl))

-- a number has ended
pub run-number : (refuse : Refuse) (most : ℕ) → Allows refuse most → (start value : ℕ) (gs : List Group) (o : ℕ) (ds : List ℕ) → EndsToken ds → run refuse (at (open_number start value) gs None) o ds ≡ run refuse (add_to (number start value) gs None) o ds
run-number refuse most allows start value gs o ds =
    run-ended refuse most allows (open_number start value) (number start value) gs o ds refl refl (λ c ends. (number_ends c ends, rw (number_ends c ends) refl))

-- a literal has ended
pub run-literal : (refuse : Refuse) (most : ℕ) → Allows refuse most → (start : ℕ) (bits : List Bool) (gs : List Group) (o : ℕ) (ds : List ℕ) → EndsToken ds → run refuse (at (open_literal start bits) gs None) o ds ≡ run refuse (add_to (literal start bits) gs None) o ds
run-literal refuse most allows start bits gs o ds =
    run-ended refuse most allows (open_literal start bits) (literal start bits) gs o ds refl refl (λ c ends. (literal_ends c ends, rw (literal_ends c ends) refl))

-- a token, and then its end
Passes-ended : (refuse : Refuse) (r q s : Reading) (o : ℕ) (text : List ℕ) → Passes refuse Anything r q o text → ((ds : List ℕ) → EndsToken ds → run refuse q (o + length text) ds ≡ run refuse s (o + length text) ds) → Passes refuse EndsToken r s o text
Passes-ended refuse r q s o text h ends = record {
  characters = h.characters;
  scalars = h.scalars;
  encoded = h.encoded;
  runs = λ ds follows. h.runs ds tt ∙ ends ds follows;
}

-- ---- names

within-name : (start : ℕ) (text : List ℕ) (c : ℕ) → length text + len_utf8 c ≤ 64 → refusal_within (open_name start text) c ≡ None
within-name start text c h = ap (λ b. if b then None else Some bad_name) (le-leb (length text + len_utf8 c) 64 h)

name_on : (refuse : Refuse) (most : ℕ) → Allows refuse most → (cs : List ℕ) (start : ℕ) (text : List ℕ) (gs : List Group) (o : ℕ) (ds : List ℕ) → list_all continues_name cs ≡ true → length (text ++ encode_utf8_all cs) ≤ 64 → run refuse (at (open_name start text) gs None) o (cs ++ ds) ≡ run refuse (at (open_name start (text ++ encode_utf8_all cs)) gs None) (o + length (encode_utf8_all cs)) ds
name_on refuse most allows [] start text gs o ds all within =
    ap₂ (λ t n. run refuse (at (open_name start t) gs None) n ds) (sym (append-nil text)) (omega arith)
name_on refuse most allows (c ∷ cs) start text gs o ds all within =
    let p = and_parts (continues_name c) (list_all continues_name cs) all in
    let lengths = length-append text (encode_utf8 c ++ encode_utf8_all cs) in
    let more = length-append (encode_utf8 c) (encode_utf8_all cs) in
    let assoc = append_assoc text (encode_utf8 c) (encode_utf8_all cs) in
    run-token refuse most allows (open_name start text) gs c o (cs ++ ds) p.0 (within-name start text c (omega (arith, within, lengths, more, length-encode c)))
    ∙ name_on refuse most allows cs start (text ++ encode_utf8 c) gs (o + len_utf8 c) ds p.1 (omega (arith, within, ap length assoc))
    ∙ ap₂ (λ t n. run refuse (at (open_name start t) gs None) n ds) assoc (omega (arith, more, length-encode c))

Passes-name_of : (refuse : Refuse) (most : ℕ) → Allows refuse most → (cs name : List ℕ) (gs : List Group) (o : ℕ) → encode_utf8_all cs ≡ name → all_scalars cs ≡ true → spells_name cs ≡ true → length name ≤ 64 → Passes refuse Anything (at no_token gs None) (at (open_name o name) gs None) o name
Passes-name_of refuse most allows [] name gs o e all spells within = absurd (let x : ⊥ = cc in x)
Passes-name_of refuse most allows (c ∷ cs) name gs o e all spells within =
    let p = and_parts (starts_name c) (list_all continues_name cs) spells in
    let b = beginning-word c p.0 in
    record {
      characters = c ∷ cs;
      scalars = all;
      encoded = e;
      runs = λ ds follows.
          run-step refuse (at no_token gs None) o c (cs ++ ds) (allows.others (at no_token gs None) c (refusal-beginning gs None c Word b refl))
          ∙ ap (λ x. run refuse (after_beginning (at no_token gs None) o c x) (o + len_utf8 c) (cs ++ ds)) b
          ∙ name_on refuse most allows cs o (encode_utf8 c) gs (o + len_utf8 c) ds p.1 (omega (arith, within, ap length e))
          ∙ ap₂ (λ t n. run refuse (at (open_name o t) gs None) n ds) e (omega (arith, length-append (encode_utf8 c) (encode_utf8_all cs), length-encode c, ap length e));
    }

-- a name passes, and is added
pub Passes-word : (refuse : Refuse) (most : ℕ) → Allows refuse most → (name : List ℕ) (gs : List Group) (o : ℕ) → is_name name ≡ true → Passes refuse EndsToken (at no_token gs None) (add_to (word o name) gs None) o name
Passes-word refuse most allows name gs o is =
    let p = is_name-parts name is in
    let u = IsUtf8-from_is_utf8 name p.0 in
    Passes-ended refuse (at no_token gs None) (at (open_name o name) gs None) (add_to (word o name) gs None) o name
    (Passes-name_of refuse most allows (chars name) name gs o (encodes-chars name u) (scalars-chars name u) p.2 p.1)
    (λ ds follows. run-name refuse most allows o name gs (o + length name) ds follows)

-- ---- numbers

within-number : (start value c : ℕ) → 0 < value → 10 * value + (c - 48) < 2 ^ 32 → refusal_within (open_number start value) c ≡ None
within-number start value c some below =
    ap₂ (λ a b. if not a && b then None else Some bad_byte) (not_zero value some) (fits (10 * value + (c - 48)) below)
  where
    not_zero : (m : ℕ) → 0 < m → eqb m 0 ≡ false
    not_zero m h = grind (arith, nat_tests)

    fits : (m : ℕ) → m < 2 ^ 32 → ltb m (2 ^ 32) ≡ true
    fits m h = grind (arith, nat_tests)

a_digit : (d : ℕ) → d < 10 → is_digit (48 + d) ≡ true
a_digit d h = grind (arith, nat_tests)

Passes-digit : (refuse : Refuse) (most : ℕ) → Allows refuse most → (start value digit : ℕ) (gs : List Group) (o : ℕ) → 0 < value → digit < 10 → 10 * value + digit < 2 ^ 32 → Passes refuse Anything (at (open_number start value) gs None) (at (open_number start (10 * value + digit)) gs None) o ((48 + digit) ∷ [])
Passes-digit refuse most allows start value digit gs o some small below =
    let same : 48 + digit - 48 ≡ digit = omega arith in
    let goes = a_digit digit small in
    let none = within-number start value (48 + digit) some (omega (arith, same, below)) in
    record {
      characters = (48 + digit) ∷ [];
      scalars = rw (low_scalar (48 + digit) (omega arith)) refl;
      encoded = append-nil (encode_utf8 (48 + digit)) ∙ encode_ascii (48 + digit) (omega arith);
      runs = λ ds follows.
          run-token refuse most allows (open_number start value) gs (48 + digit) o ds goes none
          ∙ ap₂ (λ d n. run refuse (at (open_number start (10 * value + d)) gs None) n ds) same (omega (arith, length-encode (48 + digit), ap length (encode_ascii (48 + digit) (omega arith))));
    }

Passes-decimal : (refuse : Refuse) (most : ℕ) → Allows refuse most → (n : ℕ) (gs : List Group) (o : ℕ) → n < 2 ^ 32 → Passes refuse Anything (at no_token gs None) (at (open_number o n) gs None) o (decimal n)
Passes-decimal refuse most allows n gs o below =
    decimal_by_steps
    (λ m text. m < 2 ^ 32 → Passes refuse Anything (at no_token gs None) (at (open_number o m) gs None) o text)
    (λ m small fits.
    let e = beginning-number (48 + m) (a_digit m small) in
    let same : 48 + m - 48 ≡ m = omega arith in
    let P : ℕ → Type 0 = λ v. Passes refuse Anything (at no_token gs None) (at (open_number o v) gs None) o ((48 + m) ∷ []) in
    subst P same (Passes-beginning refuse gs None o (48 + m) Number (omega arith) e (allows.others (at no_token gs None) (48 + m) (refusal-beginning gs None (48 + m) Number e refl))))
    (λ m digits large before fits.
    let whole : 10 * (m / 10) + m % 10 ≡ m = omega arith in
    let P : ℕ → Type 0 = λ v. Passes refuse Anything (at no_token gs None) (at (open_number o v) gs None) o (digits ++ ((48 + m % 10) ∷ [])) in
    subst P whole (Passes-then refuse Anything (at no_token gs None) (at (open_number o (m / 10)) gs None) (at (open_number o (10 * (m / 10) + m % 10)) gs None) o digits ((48 + m % 10) ∷ []) (before (omega arith))
    (Passes-digit refuse most allows o (m / 10) (m % 10) gs (o + length digits) (omega arith) (omega arith) (omega (arith, whole, fits)))))
    n (omega arith) below

-- a number passes, and is added
pub Passes-number : (refuse : Refuse) (most : ℕ) → Allows refuse most → (n : ℕ) (gs : List Group) (o : ℕ) → n < 2 ^ 32 → Passes refuse EndsToken (at no_token gs None) (add_to (number o n) gs None) o (decimal n)
Passes-number refuse most allows n gs o below =
    Passes-ended refuse (at no_token gs None) (at (open_number o n) gs None) (add_to (number o n) gs None) o (decimal n)
    (Passes-decimal refuse most allows n gs o below) (λ ds follows. run-number refuse most allows o n gs (o + length (decimal n)) ds follows)

-- ---- literals

within-literal : (start : ℕ) (bits : List Bool) (c : ℕ) → length bits < 128 → refusal_within (open_literal start bits) c ≡ None
within-literal start bits c h = ap (λ b. if b then None else Some bad_byte) (fits (length bits) h)
  where
    fits : (m : ℕ) → m < 128 → ltb m 128 ≡ true
    fits m h = grind (arith, nat_tests)

a_bit : (b : Bool) → (eqb (bit_digit b) 48 || eqb (bit_digit b) 49) ≡ true
a_bit true = refl
a_bit false = refl

told_bit : (b : Bool) → eqb (bit_digit b) 49 ≡ b
told_bit true = refl
told_bit false = refl

bit_digit-ascii : (b : Bool) → bit_digit b < 128
bit_digit-ascii true = omega arith
bit_digit-ascii false = omega arith

Passes-bit : (refuse : Refuse) (most : ℕ) → Allows refuse most → (start : ℕ) (bits : List Bool) (b : Bool) (gs : List Group) (o : ℕ) → length bits < 128 → Passes refuse Anything (at (open_literal start bits) gs None) (at (open_literal start (bits ++ b ∷ [])) gs None) o (bit_digit b ∷ [])
Passes-bit refuse most allows start bits b gs o room =
    let small = bit_digit-ascii b in
    record {
      characters = bit_digit b ∷ [];
      scalars = rw (low_scalar (bit_digit b) (omega (arith, small))) refl;
      encoded = append-nil (encode_utf8 (bit_digit b)) ∙ encode_ascii (bit_digit b) small;
      runs = λ ds follows.
          run-token refuse most allows (open_literal start bits) gs (bit_digit b) o ds (a_bit b) (within-literal start bits (bit_digit b) room)
          ∙ ap₂ (λ x n. run refuse (at (open_literal start (bits ++ x ∷ [])) gs None) n ds) (told_bit b) (omega (arith, length-encode (bit_digit b), ap length (encode_ascii (bit_digit b) small)));
    }

Passes-bits : (refuse : Refuse) (most : ℕ) → Allows refuse most → (more : List Bool) (start : ℕ) (bits : List Bool) (gs : List Group) (o : ℕ) → length bits + length more ≤ 128 → Passes refuse Anything (at (open_literal start bits) gs None) (at (open_literal start (bits ++ more)) gs None) o (map bit_digit more)
Passes-bits refuse most allows [] start bits gs o within = record {
  characters = [];
  scalars = refl;
  encoded = refl;
  runs = λ ds follows. ap₂ (λ x n. run refuse (at (open_literal start x) gs None) n ds) (sym (append-nil bits)) (omega arith);
}
Passes-bits refuse most allows (b ∷ more) start bits gs o within =
    let P : List Bool → Type 0 = λ x. Passes refuse Anything (at (open_literal start bits) gs None) (at (open_literal start x) gs None) o (bit_digit b ∷ map bit_digit more) in
    subst P (append_assoc bits (b ∷ []) more)
    (Passes-then refuse Anything (at (open_literal start bits) gs None) (at (open_literal start (bits ++ b ∷ [])) gs None) (at (open_literal start ((bits ++ b ∷ []) ++ more)) gs None) o (bit_digit b ∷ []) (map bit_digit more)
    (Passes-bit refuse most allows start bits b gs o (omega (arith, within)))
    (Passes-bits refuse most allows more start (bits ++ b ∷ []) gs (o + 1) (omega (arith, within, length-append bits (b ∷ [])))))

-- a literal passes, and is added
pub Passes-literal : (refuse : Refuse) (most : ℕ) → Allows refuse most → (bits : List Bool) (gs : List Group) (o : ℕ) → length bits ≤ 128 → Passes refuse EndsToken (at no_token gs None) (add_to (literal o bits) gs None) o (codes "#" ++ map bit_digit bits)
Passes-literal refuse most allows bits gs o within =
    Passes-ended refuse (at no_token gs None) (at (open_literal o bits) gs None) (add_to (literal o bits) gs None) o (codes "#" ++ map bit_digit bits)
    (Passes-then refuse Anything (at no_token gs None) (at (open_literal o []) gs None) (at (open_literal o bits) gs None) o (codes "#") (map bit_digit bits)
    (Passes-beginning refuse gs None o 35 Literal (omega arith) refl (allows.others (at no_token gs None) 35 refl))
    (Passes-bits refuse most allows bits o [] gs (o + 1) (omega (arith, within))))
    (λ ds follows. run-literal refuse most allows o bits gs (o + length (codes "#" ++ map bit_digit bits)) ds follows)
