-- Reading is sound, where no token is open: with the character before it, what follows is still spelled.
use Rattle.std.proofs.Common.{◌≡◌, ℕ, ◌+◌, ◌-◌, ◌<◌, true, false, ◌&&◌, not, if◌then◌else◌, eqb, List, [], ◌∷◌, ◌++◌, length, codes, Option, Some, None, inl, inr, refl, sym, ap, ◌∙◌, subst, arith}
use Rattle.std.specs.Prelude.{is_some}
use Rattle.std.specs.Char.{len_utf8, encode_utf8}
use Rattle.std.specs.Fmt.{decimal}
use Rattle.std.proofs.lemmas.Fmt.{decimal_digit}
use Rattle.std.proofs.lemmas.List.{append_assoc, length-append}
use Rattle.std.proofs.lemmas.Str.{encode_ascii, length-encode}
use Rattle.ipdl_tree.specs.declared.character.Beginning.{Beginning}
use Rattle.ipdl_tree.specs.declared.character.Beginning.TheVariants.{Blank, Comment, Opening, Closing, Number, Literal, Word, Nothing}
use Rattle.ipdl_tree.specs.Trees.{Located, word, number, literal, group, Forest, no_trees, offset_of}
use Rattle.ipdl_tree.specs.Causes.{Cause, bad_byte, extra}
use Rattle.ipdl_tree.specs.Characters.{is_digit, beginning_of}
use Rattle.ipdl_tree.specs.Reading.{open_name, open_number, open_literal, Group, Reading, add_to, close, after_beginning, refusal_of_any_beginning}
use Rattle.ipdl_tree.specs.Spelling.{is_blank, blank, comment as comment_piece, piece_text, IsApart, Spells, SpellsAll}
use Rattle.ipdl_tree.specs.Views.{forest}
use Rattle.ipdl_tree.proofs.Beginnings.{Means, beginning-means}
use Rattle.ipdl_tree.proofs.Characters.{eqb-same, is_blank-ascii, is_digit-range}
use Rattle.ipdl_tree.proofs.Rest.{extend-none, FollowsTree, FollowsGap, FollowsComment, FollowsToken, FollowsReading, IsGap-nil, FollowsGap-gap, FollowsGap-tree, FollowsTree-add_to, past-append}

-- ---- one byte at the front

-- an ASCII character is its byte
pub encode-front : (c : ℕ) (text : List ℕ) → c < 128 → encode_utf8 c ++ text ≡ c ∷ text
encode-front c text small = ap (λ x. x ++ text) (encode_ascii c small)

len-ascii : (c : ℕ) → c < 128 → len_utf8 c ≡ 1
len-ascii c small = sym (length-encode c) ∙ ap length (encode_ascii c small)

-- what is told of the byte holds of the character
FollowsGap-ascii : (c : ℕ) (gs : List Group) (k : Option Located) (t : Located) (o : ℕ) (text : List ℕ) → c < 128 → FollowsGap gs k t o (c ∷ text) → FollowsGap gs k t o (encode_utf8 c ++ text)
FollowsGap-ascii c gs k t o text small h =
    let P : List ℕ → Type 0 = FollowsGap gs k t o in subst P (sym (encode-front c text small)) h

FollowsState-ascii : (c : ℕ) (r : Reading) (t : Located) (o : ℕ) (text : List ℕ) → c < 128 → FollowsReading r t (o + len_utf8 c) text → FollowsReading r t (o + 1) text
FollowsState-ascii c r t o text small h =
    let P : ℕ → Type 0 = λ n. FollowsReading r t (o + n) text in subst P (len-ascii c small) h

-- ---- a character where no token is open

after_blank : (c : ℕ) (gs : List Group) (k : Option Located) (t : Located) (o : ℕ) (text : List ℕ) → is_blank c ≡ true → FollowsGap gs k t (o + 1) text → FollowsGap gs k t o (c ∷ text)
after_blank c gs k t o text is h = FollowsGap-gap (blank c) gs k t o text is h

after_semicolon : (gs : List Group) (k : Option Located) (t : Located) (o : ℕ) (text : List ℕ) → FollowsComment gs k t (o + 1) text → FollowsGap gs k t o (59 ∷ text)
after_semicolon gs k t o text (inl (words, rest, is, follows, e)) =
    let P : ℕ → Type 0 = λ n. FollowsGap gs k t n rest in
    let Q : List ℕ → Type 0 = FollowsGap gs k t o in
    let n : o + 1 + length words + 1 ≡ o + length (piece_text (comment_piece words)) = omega (arith, length-append (59 ∷ words) (10 ∷ [])) in
    subst Q (ap (λ x. 59 ∷ x) (append_assoc words (10 ∷ []) rest ∙ sym e)) (FollowsGap-gap (comment_piece words) gs k t o rest is (subst P n follows))
after_semicolon [] (Some u) t o text (inr (is, none, same)) =
    (inr ([], text, IsGap-nil, is, refl), cc)
after_semicolon [] None t o text (inr (is, none, same)) = absurd (let x : ⊥ = cc in x)
after_semicolon (g ∷ gs) k t o text (inr (is, none, same)) = absurd (let x : ⊥ = cc in x)

after_opening : (gs : List Group) (t : Located) (o : ℕ) (text : List ℕ) → FollowsGap (record { start = o; parts = [] } ∷ gs) None t (o + 1) text → FollowsGap gs None t o (40 ∷ text)
after_opening gs t o text (more, inner, outer, spells, follows, e) =
    let first = codes "(" ++ inner ++ codes ")" in
    let P : ℕ → Type 0 = λ n. SpellsAll more n inner in
    let n : o + 1 + length inner + 1 ≡ o + length first = omega (arith, length-append (codes "(" ++ inner) (codes ")")) in
    let Q : ℕ → Type 0 = λ m. FollowsTree gs t (group o more) m outer in
    let R : List ℕ → Type 0 = FollowsGap gs None t o in
    subst R (ap (λ x. 40 ∷ x) (append_assoc inner (41 ∷ []) outer ∙ sym e))
    (FollowsGap-tree gs t (group o more) o first outer (inner, subst P (omega arith) spells, refl) refl tt (subst Q n follows))

after_closing : (g : Group) (gs : List Group) (k : Option Located) (t : Located) (o : ℕ) (text : List ℕ) → FollowsReading (add_to (group g.start (forest g.parts)) gs k) t (o + 1) text → FollowsGap (g ∷ gs) k t o (41 ∷ text)
after_closing g gs k t o text h =
    let P : Forest → Type 0 = λ ts. FollowsTree gs t (group g.start ts) (o + 0 + 1) text in
    let Q : ℕ → Type 0 = λ n. FollowsTree gs t (group g.start (forest g.parts)) n text in
    (no_trees, [], text, IsGap-nil, subst P (sym (extend-none g.parts)) (subst Q (omega arith) (FollowsTree-add_to (group g.start (forest g.parts)) gs k t (o + 1) text h)), refl)

-- the first character of a token and the rest
tree_of_token : (gs : List Group) (t u : Located) (o : ℕ) (head tail rest text : List ℕ) → Spells u (head ++ tail) → offset_of u ≡ o → IsApart u rest → FollowsTree gs t u (o + length head + length tail) rest → text ≡ tail ++ rest → FollowsGap gs None t o (head ++ text)
tree_of_token gs t u o head tail rest text spells place apart follows e =
    let P : List ℕ → Type 0 = FollowsGap gs None t o in
    let Q : ℕ → Type 0 = λ n. FollowsTree gs t u n rest in
    subst P (append_assoc head tail rest ∙ ap (λ x. head ++ x) (sym e)) (FollowsGap-tree gs t u o (head ++ tail) rest spells place apart (subst Q (past-append o head tail) follows))

after_digit : (c : ℕ) (gs : List Group) (t : Located) (o : ℕ) (text : List ℕ) → is_digit c ≡ true → FollowsToken (open_number o (c - 48)) gs t (o + 1) text → FollowsGap gs None t o (c ∷ text)
after_digit c gs t o text is (tail, rest, u, (n, below, digits, same), ends, follows, e) =
    let range = is_digit-range c is in
    let one : decimal (c - 48) ≡ c ∷ [] = decimal_digit (c - 48) (omega (arith, range.0, range.1)) ∙ ap (λ x. x ∷ []) (omega (arith, range.0)) in
    let spelled : (c ∷ []) ++ tail ≡ decimal n = sym (digits ∙ ap (λ x. x ++ tail) one) in
    let P : Located → Type 0 = λ v. FollowsTree gs t v (o + 1 + length tail) rest in
    tree_of_token gs t (number o n) o (c ∷ []) tail rest text (below, spelled) refl ends (subst P same follows) e

after_sharp : (gs : List Group) (t : Located) (o : ℕ) (text : List ℕ) → FollowsToken (open_literal o []) gs t (o + 1) text → FollowsGap gs None t o (35 ∷ text)
after_sharp gs t o text (tail, rest, u, (more, within, bits, same), ends, follows, e) =
    let P : Located → Type 0 = λ v. FollowsTree gs t v (o + 1 + length tail) rest in
    tree_of_token gs t (literal o more) o (35 ∷ []) tail rest text (within, ap (λ x. 35 ∷ x) bits) refl ends (subst P same follows) e

after_letter : (c : ℕ) (gs : List Group) (t : Located) (o : ℕ) (text : List ℕ) → FollowsToken (open_name o (encode_utf8 c)) gs t (o + len_utf8 c) text → FollowsGap gs None t o (encode_utf8 c ++ text)
after_letter c gs t o text (tail, rest, u, (name, same), ends, follows, e) =
    let P : Located → Type 0 = λ v. FollowsTree gs t v (o + len_utf8 c + length tail) rest in
    let Q : ℕ → Type 0 = λ n. FollowsTree gs t (word o (encode_utf8 c ++ tail)) (o + n + length tail) rest in
    tree_of_token gs t (word o (encode_utf8 c ++ tail)) o (encode_utf8 c) tail rest text (name, refl) refl ends (subst Q (sym (length-encode c)) (subst P same follows)) e

no_opening : (k : Option Located) (next : Option Cause) → (if not false && is_some k then Some extra else next) ≡ None → k ≡ None
no_opening None next e = refl
no_opening (Some u) next e = cc

-- where no token is open, by what begins
begins : (b : Beginning) (r : Reading) (c o : ℕ) (t : Located) (text : List ℕ) → Means b c → refusal_of_any_beginning r b ≡ None → FollowsReading (after_beginning r o c b) t (o + len_utf8 c) text → FollowsGap r.groups r.complete t o (encode_utf8 c ++ text)
begins Blank r c o t text means none h =
    let small = is_blank-ascii c means in
    FollowsGap-ascii c r.groups r.complete t o text small (after_blank c r.groups r.complete t o text means (FollowsState-ascii c (after_beginning r o c Blank) t o text small h))
begins Comment r c o t text means none h =
    let same = eqb-same c 59 means in
    let small : c < 128 = omega (arith, same) in
    let P : ℕ → Type 0 = λ x. FollowsGap r.groups r.complete t o (x ∷ text) in
    FollowsGap-ascii c r.groups r.complete t o text small (subst P (sym same) (after_semicolon r.groups r.complete t o text (FollowsState-ascii c (after_beginning r o c Comment) t o text small h)))
begins Opening r c o t text means none h =
    let same = eqb-same c 40 means in
    let small : c < 128 = omega (arith, same) in
    let none_yet = no_opening r.complete _ none in
    let P : ℕ → Type 0 = λ x. FollowsGap r.groups None t o (x ∷ text) in
    let Q : Option Located → Type 0 = λ k. FollowsGap r.groups k t o (encode_utf8 c ++ text) in
    subst Q (sym none_yet) (FollowsGap-ascii c r.groups None t o text small (subst P (sym same) (after_opening r.groups t o text (FollowsState-ascii c (after_beginning r o c Opening) t o text small h))))
begins Closing r c o t text means none h =
    let same = eqb-same c 41 means in
    let small : c < 128 = omega (arith, same) in
    let P : ℕ → Type 0 = λ x. FollowsGap r.groups r.complete t o (x ∷ text) in
    FollowsGap-ascii c r.groups r.complete t o text small (subst P (sym same) (closing r.groups r.complete none (FollowsState-ascii c (after_beginning r o c Closing) t o text small h)))
  where
    closing : (gs : List Group) (k : Option Located) → (if not false && is_some k then Some extra else (if eqb (length gs) 0 then Some bad_byte else None)) ≡ None → FollowsReading (close gs k) t (o + 1) text → FollowsGap gs k t o (41 ∷ text)
    closing [] None none h = cc
    closing [] (Some u) none h = cc
    closing (g ∷ gs) k none h = after_closing g gs k t o text h
begins Number r c o t text means none h =
    let small : c < 128 = omega (arith, (is_digit-range c means).1) in
    let none_yet = no_opening r.complete _ none in
    let Q : Option Located → Type 0 = λ k. FollowsGap r.groups k t o (encode_utf8 c ++ text) in
    subst Q (sym none_yet) (FollowsGap-ascii c r.groups None t o text small (after_digit c r.groups t o text means (FollowsState-ascii c (after_beginning r o c Number) t o text small h)))
begins Literal r c o t text means none h =
    let same = eqb-same c 35 means in
    let small : c < 128 = omega (arith, same) in
    let none_yet = no_opening r.complete _ none in
    let P : ℕ → Type 0 = λ x. FollowsGap r.groups None t o (x ∷ text) in
    let Q : Option Located → Type 0 = λ k. FollowsGap r.groups k t o (encode_utf8 c ++ text) in
    subst Q (sym none_yet) (FollowsGap-ascii c r.groups None t o text small (subst P (sym same) (after_sharp r.groups t o text (FollowsState-ascii c (after_beginning r o c Literal) t o text small h))))
begins Word r c o t text means none h =
    let none_yet = no_opening r.complete _ none in
    let Q : Option Located → Type 0 = λ k. FollowsGap r.groups k t o (encode_utf8 c ++ text) in
    subst Q (sym none_yet) (after_letter c r.groups t o text h)
begins Nothing r c o t text means none h = impossible r.complete none
  where
    impossible : (k : Option Located) → (if not false && is_some k then Some extra else Some bad_byte) ≡ None → FollowsGap r.groups r.complete t o (encode_utf8 c ++ text)
    impossible None e = absurd (let x : ⊥ = cc in x)
    impossible (Some u) e = absurd (let x : ⊥ = cc in x)

-- a character where no token is open
pub between : (r : Reading) (c o : ℕ) (t : Located) (text : List ℕ) → refusal_of_any_beginning r (beginning_of c) ≡ None → FollowsReading (after_beginning r o c (beginning_of c)) t (o + len_utf8 c) text → FollowsGap r.groups r.complete t o (encode_utf8 c ++ text)
between r c o t text none h = begins (beginning_of c) r c o t text (beginning-means c) none h
