-- Reading is complete: it goes through whatever spells a tree, and gives that tree.
use Rattle.std.proofs.Common.{◌≡◌, ℕ, suc, ◌+◌, ◌<◌, ◌≤◌, true, if◌then◌else◌, List, [], ◌∷◌, ◌++◌, length, map, codes, Some, None, Ok, IsTrue, inl, inr, refl, sym, ap, ap₂, ◌∙◌, subst, arith}
use Rattle.std.specs.Char.{encode_utf8}
use Rattle.std.specs.Fmt.{decimal}
use Rattle.std.specs.Str.{encode_utf8_all, all_scalars}
use Rattle.std.proofs.lemmas.List.{append_assoc, append-nil, length-append}
use Rattle.std.proofs.lemmas.Str.{encode_ascii, length-encode, encodes-append, encodes_same, char_from_byte, len_utf8_bounds}
use Rattle.ipdl_tree.specs.declared.character.Beginning.TheVariants.{Opening, Closing}
use Rattle.ipdl_tree.specs.Trees.{Located, word, number, literal, group, Forest, no_trees, tree, offset_of, depth_of, greatest_depth}
use Rattle.ipdl_tree.specs.Causes.{bad_byte}
use Rattle.ipdl_tree.specs.Reading.{no_token, comment, Group, Reading, nothing_read, add_to}
use Rattle.ipdl_tree.specs.Spelling.{ends_token, bit_digit, IsGap, IsLastGap, EndsToken, IsApart, Spells, SpellsAll, SpellsSource}
use Rattle.ipdl_tree.specs.Views.{forest}
use Rattle.ipdl_tree.proofs.Characters.{ends_token-ascii}
use Rattle.ipdl_tree.proofs.Rest.{past-append}
use Rattle.ipdl_tree.proofs.Characters.{eqb-suc-zero}
use Rattle.ipdl_tree.proofs.Passing.{Refuse, Allows, run, at, Passes, Anything, Passes-beginning, Passes-append, Passes-then, Passes-text, Passes-gap, Passes-semicolon, Passes-words, all_scalars-append}
use Rattle.ipdl_tree.proofs.PassingTokens.{Passes-word, Passes-number, Passes-literal}

-- ---- what may follow

-- a character whose bytes end a token ends it
ends_token-character : (c : ℕ) (xs : List ℕ) → EndsToken (encode_utf8 c ++ xs) → IsTrue (ends_token c)
ends_token-character c xs ends = go (encode_utf8 c ++ xs) refl ends
  where
    go : (bs : List ℕ) → bs ≡ encode_utf8 c ++ xs → EndsToken bs → IsTrue (ends_token c)
    go [] e ends = absurd (omega (arith, ap length e, length-append (encode_utf8 c) xs, length-encode c, len_utf8_bounds c))
    go (b ∷ bs) e ends =
        let same : c ≡ b = char_from_byte (b ∷ bs) xs c e (ends_token-ascii b ends) (omega arith) in
        let P : ℕ → Type 0 = λ x. IsTrue (ends_token x) in subst P (sym same) ends

EndsToken-characters : (cs ds rest : List ℕ) → encode_utf8_all cs ≡ rest → EndsToken rest → EndsToken ds → EndsToken (cs ++ ds)
EndsToken-characters [] ds rest e h k = k
EndsToken-characters (c ∷ cs) ds rest e h k =
    let P : List ℕ → Type 0 = EndsToken in ends_token-character c (encode_utf8_all cs) (subst P (sym e) h)

IsApart-characters : (t : Located) (cs ds rest : List ℕ) → encode_utf8_all cs ≡ rest → IsApart t rest → IsApart t ds → IsApart t (cs ++ ds)
IsApart-characters (word pos name) cs ds rest e h k = EndsToken-characters cs ds rest e h k
IsApart-characters (number pos n) cs ds rest e h k = EndsToken-characters cs ds rest e h k
IsApart-characters (literal pos bits) cs ds rest e h k = EndsToken-characters cs ds rest e h k
IsApart-characters (group pos ts) cs ds rest e h k = tt

-- a closing parenthesis follows
abbrev Closes : List ℕ → Type 0
Closes ds = (rest : List ℕ) × (ds ≡ 41 ∷ rest)

IsApart-closes : (t : Located) (ds : List ℕ) → Closes ds → IsApart t ds
IsApart-closes t ds (rest, e) = let P : List ℕ → Type 0 = IsApart t in subst P (sym e) (go t)
  where
    go : (t : Located) → IsApart t (41 ∷ rest)
    go (word pos name) = refl
    go (number pos n) = refl
    go (literal pos bits) = refl
    go (group pos ts) = tt

closing-characters : (cs ds : List ℕ) → encode_utf8_all cs ≡ 41 ∷ [] → Closes (cs ++ ds)
closing-characters cs ds e =
    let same : cs ≡ 41 ∷ [] = encodes_same cs (41 ∷ []) (e ∙ sym (append-nil (encode_utf8 41) ∙ encode_ascii 41 (omega arith))) in
    (ds, ap (λ x. x ++ ds) same)

Passes-narrower : (refuse : Refuse) (D E : List ℕ → Type 0) (r q : Reading) (o : ℕ) (text : List ℕ) → ((ds : List ℕ) → E ds → D ds) → Passes refuse D r q o text → Passes refuse E r q o text
Passes-narrower refuse D E r q o text may h = record {
  characters = h.characters;
  scalars = h.scalars;
  encoded = h.encoded;
  runs = λ ds follows. h.runs ds (may ds follows);
}

-- ---- trees

abbrev list_of : Forest → List Located
list_of no_trees = []
list_of (tree t ts) = t ∷ list_of ts

forest-list_of : (ts : Forest) → forest (list_of ts) ≡ ts
forest-list_of no_trees = refl
forest-list_of (tree t ts) = ap (tree t) (forest-list_of ts)

abbrev grown : Group → List Located → Group
grown g more = record { start = g.start; parts = g.parts ++ more }

Passes-opening : (refuse : Refuse) (most : ℕ) → Allows refuse most → (gs : List Group) (o : ℕ) → length gs < most → Passes refuse Anything (at no_token gs None) (at no_token (record { start = o; parts = [] } ∷ gs) None) o (codes "(")
Passes-opening refuse most allows gs o room = Passes-beginning refuse gs None o 40 Opening (omega arith) refl (allows.opening gs room)

Passes-closing : (refuse : Refuse) (most : ℕ) → Allows refuse most → (g : Group) (gs : List Group) (o : ℕ) → Passes refuse Anything (at no_token (g ∷ gs) None) (add_to (group g.start (forest g.parts)) gs None) o (codes ")")
Passes-closing refuse most allows g gs o =
    Passes-beginning refuse (g ∷ gs) None o 41 Closing (omega arith) refl
    (allows.others (at no_token (g ∷ gs) None) 41 (ap (λ b. if b then Some bad_byte else None) (eqb-suc-zero (length gs))))

-- a group, once its parts pass
Passes-group : (refuse : Refuse) (most : ℕ) → Allows refuse most → (pos : ℕ) (ts : Forest) (inner : List ℕ) (gs : List Group) → length gs < most → Passes refuse Closes (at no_token (record { start = pos; parts = [] } ∷ gs) None) (at no_token (record { start = pos; parts = list_of ts } ∷ gs) None) (suc pos) inner → Passes refuse Anything (at no_token gs None) (add_to (group pos ts) gs None) pos (codes "(" ++ inner ++ codes ")")
Passes-group refuse most allows pos ts inner gs room parts =
    let opened = at no_token (record { start = pos; parts = [] } ∷ gs) None in
    let filled : Group = record { start = pos; parts = list_of ts } in
    let n : suc pos ≡ pos + 1 = omega arith in
    let P : ℕ → Type 0 = λ m. Passes refuse Closes opened (at no_token (filled ∷ gs) None) m inner in
    let close = Passes-closing refuse most allows filled gs (pos + length (codes "(" ++ inner)) in
    let Q : Forest → Type 0 = λ us. Passes refuse Anything (at no_token gs None) (add_to (group pos us) gs None) pos (codes "(" ++ inner ++ codes ")") in
    subst Q (forest-list_of ts)
    (Passes-append refuse Closes Anything (at no_token gs None) (at no_token (filled ∷ gs) None) (add_to (group pos (forest (list_of ts))) gs None) pos (codes "(" ++ inner) (codes ")")
    (Passes-then refuse Closes (at no_token gs None) opened (at no_token (filled ∷ gs) None) pos (codes "(") inner (Passes-opening refuse most allows gs pos room) (subst P n parts))
    close (λ ds follows. closing-characters close.characters ds close.encoded))

-- a gap, a tree and the rest of a group
Passes-more : (refuse : Refuse) (most : ℕ) → Allows refuse most → (t : Located) (ts : Forest) (o : ℕ) (gap first rest text : List ℕ) (g : Group) (gs : List Group) → IsGap gap → offset_of t ≡ o + length gap → IsApart t rest → text ≡ gap ++ first ++ rest
    → Passes refuse (IsApart t) (at no_token (g ∷ gs) None) (at no_token (grown g (t ∷ []) ∷ gs) None) (offset_of t) first
    → Passes refuse Closes (at no_token (grown g (t ∷ []) ∷ gs) None) (at no_token (grown (grown g (t ∷ [])) (list_of ts) ∷ gs) None) (o + length gap + length first) rest
    → Passes refuse Closes (at no_token (g ∷ gs) None) (at no_token (grown g (t ∷ list_of ts) ∷ gs) None) o text
Passes-more refuse most allows t ts o gap first rest text g gs is_gap place apart e one others =
    let r = at no_token (g ∷ gs) None in
    let q = at no_token (grown g (t ∷ []) ∷ gs) None in
    let s = at no_token (grown (grown g (t ∷ [])) (list_of ts) ∷ gs) None in
    let P : ℕ → Type 0 = λ m. Passes refuse (IsApart t) r q m first in
    let Q : ℕ → Type 0 = λ m. Passes refuse Closes q s m rest in
    let later = subst Q (past-append o gap first) others in
    let R : List Located → Type 0 = λ ps. Passes refuse Closes r (at no_token (record { start = g.start; parts = ps } ∷ gs) None) o text in
    subst R (append_assoc g.parts (t ∷ []) (list_of ts))
    (Passes-text refuse Closes r s o (gap ++ first ++ rest) text (sym e)
    (Passes-append refuse (IsApart t) Closes r q s o (gap ++ first) rest
    (Passes-then refuse (IsApart t) r r q o gap first (Passes-gap refuse most allows gap (g ∷ gs) None o is_gap) (subst P place one))
    later (λ ds follows. IsApart-characters t later.characters ds rest later.encoded apart (IsApart-closes t ds follows))))

Passes-last : (refuse : Refuse) (most : ℕ) → Allows refuse most → (o : ℕ) (text : List ℕ) (g : Group) (gs : List Group) → IsGap text → Passes refuse Closes (at no_token (g ∷ gs) None) (at no_token (grown g [] ∷ gs) None) o text
Passes-last refuse most allows o text g gs is =
    let r = at no_token (g ∷ gs) None in
    let R : List Located → Type 0 = λ ps. Passes refuse Closes r (at no_token (record { start = g.start; parts = ps } ∷ gs) None) o text in
    subst R (sym (append-nil g.parts)) (Passes-narrower refuse Anything Closes r r o text (λ ds follows. tt) (Passes-gap refuse most allows text (g ∷ gs) None o is))

mutual
  pub Passes-tree : (t : Located) (refuse : Refuse) (most : ℕ) → Allows refuse most → (text : List ℕ) (gs : List Group) → Spells t text → depth_of t + length gs ≤ most → Passes refuse (IsApart t) (at no_token gs None) (add_to t gs None) (offset_of t) text
  Passes-tree (word pos name) refuse most allows text gs (is, e) depth =
      Passes-text refuse EndsToken (at no_token gs None) (add_to (word pos name) gs None) pos name text (sym e) (Passes-word refuse most allows name gs pos is)
  Passes-tree (number pos n) refuse most allows text gs (below, e) depth =
      Passes-text refuse EndsToken (at no_token gs None) (add_to (number pos n) gs None) pos (decimal n) text (sym e) (Passes-number refuse most allows n gs pos below)
  Passes-tree (literal pos bits) refuse most allows text gs (within, e) depth =
      Passes-text refuse EndsToken (at no_token gs None) (add_to (literal pos bits) gs None) pos (codes "#" ++ map bit_digit bits) text (sym e) (Passes-literal refuse most allows bits gs pos within)
  Passes-tree (group pos ts) refuse most allows text gs (inner, spells, e) depth =
      Passes-text refuse Anything (at no_token gs None) (add_to (group pos ts) gs None) pos (codes "(" ++ inner ++ codes ")") text (sym e)
      (Passes-group refuse most allows pos ts inner gs (omega (arith, depth))
      (Passes-trees ts refuse most allows (suc pos) inner (record { start = pos; parts = [] }) gs spells (omega (arith, depth))))

  pub Passes-trees : (ts : Forest) (refuse : Refuse) (most : ℕ) → Allows refuse most → (o : ℕ) (text : List ℕ) (g : Group) (gs : List Group) → SpellsAll ts o text → greatest_depth ts + suc (length gs) ≤ most → Passes refuse Closes (at no_token (g ∷ gs) None) (at no_token (grown g (list_of ts) ∷ gs) None) o text
  Passes-trees no_trees refuse most allows o text g gs spells depth = Passes-last refuse most allows o text g gs spells
  Passes-trees (tree t ts) refuse most allows o text g gs (gap, first, rest, is_gap, spells, place, apart, others, e) depth =
      Passes-more refuse most allows t ts o gap first rest text g gs is_gap place apart e
      (Passes-tree t refuse most allows first (g ∷ gs) spells (omega (arith, depth)))
      (Passes-trees ts refuse most allows (o + length gap + length first) rest (grown g (t ∷ [])) gs others (omega (arith, depth)))

-- ---- a whole source

IsApart-nil : (t : Located) → IsApart t []
IsApart-nil (word pos name) = tt
IsApart-nil (number pos n) = tt
IsApart-nil (literal pos bits) = tt
IsApart-nil (group pos ts) = tt

-- the characters of the end of a source
abbrev Ends : Refuse → Located → ℕ → List ℕ → Type 0
Ends refuse t o text = (cs : List ℕ) × (all_scalars cs ≡ true) × (encode_utf8_all cs ≡ text) × (run refuse (at no_token [] (Some t)) o cs ≡ Ok t)

ends-last : (refuse : Refuse) (most : ℕ) → Allows refuse most → (t : Located) (o : ℕ) (text : List ℕ) → IsLastGap text → Ends refuse t o text
ends-last refuse most allows t o text (inl is) =
    let p = Passes-gap refuse most allows text [] (Some t) o is in
    (p.characters, p.scalars, p.encoded, ap (run refuse (at no_token [] (Some t)) o) (sym (append-nil p.characters)) ∙ p.runs [] tt)
ends-last refuse most allows t o text (inr (gap, cut, is, words, e)) =
    let r = at no_token [] (Some t) in
    let q = at comment [] (Some t) in
    let p =
    Passes-text refuse Anything r q o (gap ++ codes ";" ++ cut) text (sym e)
    (Passes-then refuse Anything r q q o (gap ++ codes ";") cut
    (Passes-then refuse Anything r r q o gap (codes ";") (Passes-gap refuse most allows gap [] (Some t) o is) (Passes-semicolon refuse most allows [] (Some t) (o + length gap)))
    (Passes-words refuse most allows cut [] (Some t) (o + length (gap ++ codes ";")) words)) in
    (p.characters, p.scalars, p.encoded, ap (run refuse r o) (sym (append-nil p.characters)) ∙ p.runs [] tt)

-- what spells a tree is read as that tree
pub run-spelled : (refuse : Refuse) (most : ℕ) → Allows refuse most → (t : Located) (source : List ℕ) → SpellsSource t source → depth_of t ≤ most → (cs : List ℕ) × (all_scalars cs ≡ true) × (encode_utf8_all cs ≡ source) × (run refuse nothing_read 0 cs ≡ Ok t)
run-spelled refuse most allows t source (gap, text, rest, is_gap, spells, place, apart, last, e) depth =
    let end = ends-last refuse most allows t (0 + length (gap ++ text)) rest last in
    let P : ℕ → Type 0 = λ m. Passes refuse (IsApart t) nothing_read (at no_token [] (Some t)) m text in
    let one = Passes-tree t refuse most allows text [] spells (omega (arith, depth)) in
    let front = Passes-then refuse (IsApart t) nothing_read nothing_read (at no_token [] (Some t)) 0 gap text (Passes-gap refuse most allows gap [] None 0 is_gap) (subst P (place ∙ omega arith) one) in (
      front.characters ++ end.0,
      all_scalars-append front.characters end.0 front.scalars end.1,
      encodes-append front.characters end.0 ∙ ap₂ (λ a b. a ++ b) front.encoded end.2 ∙ sym e,
      front.runs end.0 (follows end.0 end.2) ∙ end.3,
    )
  where
    follows : (cs : List ℕ) → encode_utf8_all cs ≡ rest → IsApart t cs
    follows cs e =
        let P : List ℕ → Type 0 = IsApart t in
        subst P (append-nil cs) (IsApart-characters t cs [] rest e apart (IsApart-nil t))
