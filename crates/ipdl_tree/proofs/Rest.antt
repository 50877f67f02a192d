-- What is still to come of a source, by what has been read of it.
use Rattle.std.proofs.Common.{◌≡◌, ℕ, ◌+◌, ◌<◌, ◌≤◌, ◌^◌, List, [], ◌∷◌, ◌++◌, length, map, codes, Bool, Option, Some, None, IsTrue, ◌⊎◌, inl, inr, refl, sym, ap, ◌∙◌, subst, arith}
use Rattle.std.specs.Fmt.{decimal}
use Rattle.std.proofs.lemmas.List.{append_assoc, length-append}
use Rattle.ipdl_base.specs.Names.{is_name}
use Rattle.ipdl_tree.specs.Trees.{Located, word, number, literal, group, Forest, no_trees, tree, offset_of}
use Rattle.ipdl_tree.specs.Reading.{Token, no_token, comment, open_name, open_number, open_literal, Group, Reading, add_to}
use Rattle.ipdl_tree.specs.Spelling.{bit_digit, IsCommentText, Piece, piece_text, IsPiece, IsGap, IsLastGap, EndsToken, IsApart, Spells, SpellsAll}
use Rattle.ipdl_tree.specs.Views.{forest}

-- some trees, and then the others
abbrev pub extend : List Located → Forest → Forest
extend [] ts = ts
extend (u ∷ us) ts = tree u (extend us ts)

-- one more tree in front of the others
pub extend-push : (us : List Located) (u : Located) (ts : Forest) → extend (us ++ u ∷ []) ts ≡ extend us (tree u ts)
extend-push [] u ts = refl
extend-push (v ∷ us) u ts = ap (tree v) (extend-push us u ts)

-- no others
pub extend-none : (us : List Located) → extend us no_trees ≡ forest us
extend-none [] = refl
extend-none (u ∷ us) = ap (tree u) (extend-none us)

-- the rest of a group, and then what follows the group
abbrev pub Inside : ℕ → List Located → (Located → ℕ → List ℕ → Type 0) → ℕ → List ℕ → Type 0
Inside place parts Follows offset text =
    (more : Forest) × (inner : List ℕ) × (outer : List ℕ) × SpellsAll more offset inner
    × Follows (group place (extend parts more)) (offset + length inner + 1) outer × (text ≡ inner ++ 41 ∷ outer)

-- what follows a tree in some open groups, so that the whole is a tree
abbrev pub FollowsTree : List Group → Located → Located → ℕ → List ℕ → Type 0
FollowsTree [] whole u offset text = IsLastGap text × (whole ≡ u)
FollowsTree (g ∷ gs) whole u offset text = Inside g.start (g.parts ++ u ∷ []) (FollowsTree gs whole) offset text

-- what follows where no token is open
abbrev pub FollowsGap : List Group → Option Located → Located → ℕ → List ℕ → Type 0
FollowsGap [] (Some u) whole offset text = IsLastGap text × (whole ≡ u)
FollowsGap [] None whole offset text =
    (gap : List ℕ) × (first : List ℕ) × (rest : List ℕ) × IsGap gap × Spells whole first
    × (offset_of whole ≡ offset + length gap) × IsApart whole rest × IsLastGap rest × (text ≡ gap ++ (first ++ rest))
FollowsGap (g ∷ gs) k whole offset text = Inside g.start g.parts (FollowsTree gs whole) offset text

-- what follows in a comment
abbrev pub FollowsComment : List Group → Option Located → Located → ℕ → List ℕ → Type 0
FollowsComment gs k whole offset text =
    ((words : List ℕ) × (rest : List ℕ) × IsCommentText words × FollowsGap gs k whole (offset + length words + 1) rest × (text ≡ words ++ 10 ∷ rest))
    ⊎ (IsCommentText text × (gs ≡ []) × (k ≡ Some whole))

-- the bytes complete the token to the tree
abbrev pub CompletesToken : Token → List ℕ → Located → Type 0
CompletesToken no_token tail u = ⊥
CompletesToken comment tail u = ⊥
CompletesToken (open_name start text) tail u = IsTrue (is_name (text ++ tail)) × (u ≡ word start (text ++ tail))
CompletesToken (open_number start value) tail u = (n : ℕ) × (n < 2 ^ 32) × (decimal n ≡ decimal value ++ tail) × (u ≡ number start n)
CompletesToken (open_literal start bits) tail u = (more : List Bool) × (length (bits ++ more) ≤ 128) × (tail ≡ map bit_digit more) × (u ≡ literal start (bits ++ more))

-- what follows where a token is open
abbrev pub FollowsToken : Token → List Group → Located → ℕ → List ℕ → Type 0
FollowsToken token gs whole offset text =
    (tail : List ℕ) × (rest : List ℕ) × (u : Located) × CompletesToken token tail u × EndsToken rest
    × FollowsTree gs whole u (offset + length tail) rest × (text ≡ tail ++ rest)

-- what follows a state
abbrev pub FollowsState : Token → List Group → Option Located → Located → ℕ → List ℕ → Type 0
FollowsState no_token gs k whole offset text = FollowsGap gs k whole offset text
FollowsState comment gs k whole offset text = FollowsComment gs k whole offset text
FollowsState (open_name start name) gs k whole offset text = FollowsToken (open_name start name) gs whole offset text
FollowsState (open_number start value) gs k whole offset text = FollowsToken (open_number start value) gs whole offset text
FollowsState (open_literal start bits) gs k whole offset text = FollowsToken (open_literal start bits) gs whole offset text

abbrev pub FollowsReading : Reading → Located → ℕ → List ℕ → Type 0
FollowsReading r whole offset text = FollowsState r.token r.groups r.complete whole offset text

-- ---- one more piece of a gap

-- nothing is a gap
pub IsGap-nil : IsGap []
IsGap-nil = ([], tt, refl)

-- a piece in front of a gap
pub IsGap-cons : (p : Piece) (text : List ℕ) → IsPiece p → IsGap text → IsGap (piece_text p ++ text)
IsGap-cons p text one h = (p ∷ h.0, (one, h.1), ap (λ x. piece_text p ++ x) h.2)

-- a piece in front of a last gap
pub IsLastGap-cons : (p : Piece) (text : List ℕ) → IsPiece p → IsLastGap text → IsLastGap (piece_text p ++ text)
IsLastGap-cons p text one (inl h) = inl (IsGap-cons p text one h)
IsLastGap-cons p text one (inr h) =
    inr (
      piece_text p ++ h.0,
      h.1,
      IsGap-cons p h.0 one h.2,
      h.3,
      ap (λ x. piece_text p ++ x) h.4 ∙ sym (append_assoc (piece_text p) (h.0 ++ codes ";") h.1) ∙ ap (λ x. x ++ h.1) (sym (append_assoc (piece_text p) h.0 (codes ";"))),
    )

-- offsets after two texts
pub past-append : (o : ℕ) (a b : List ℕ) → o + length a + length b ≡ o + length (a ++ b)
past-append o a b = omega (arith, length-append a b)

SpellsAll-gap : (p : Piece) (ts : Forest) (o : ℕ) (text : List ℕ) → IsPiece p → SpellsAll ts (o + length (piece_text p)) text → SpellsAll ts o (piece_text p ++ text)
SpellsAll-gap p no_trees o text one h = IsGap-cons p text one h
SpellsAll-gap p (tree t ts) o text one (gap, first, rest, is_gap, spells, place, apart, others, e) =
    let n = past-append o (piece_text p) gap in
    let P : ℕ → Type 0 = λ m. SpellsAll ts (m + length first) rest in (
      piece_text p ++ gap,
      first,
      rest,
      IsGap-cons p gap one is_gap,
      spells,
      place ∙ n,
      apart,
      subst P n others,
      ap (λ x. piece_text p ++ x) e ∙ sym (append_assoc (piece_text p) (gap ++ first) rest) ∙ ap (λ x. x ++ rest) (sym (append_assoc (piece_text p) gap first)),
    )

-- a piece in front of what follows a gap
pub FollowsGap-gap : (p : Piece) (gs : List Group) (k : Option Located) (whole : Located) (o : ℕ) (text : List ℕ) → IsPiece p → FollowsGap gs k whole (o + length (piece_text p)) text → FollowsGap gs k whole o (piece_text p ++ text)
FollowsGap-gap p [] (Some u) whole o text one h = (IsLastGap-cons p text one h.0, h.1)
FollowsGap-gap p [] None whole o text one (gap, first, rest, is_gap, spells, place, apart, last, e) = (
  piece_text p ++ gap,
  first,
  rest,
  IsGap-cons p gap one is_gap,
  spells,
  place ∙ past-append o (piece_text p) gap,
  apart,
  last,
  ap (λ x. piece_text p ++ x) e ∙ sym (append_assoc (piece_text p) gap (first ++ rest)),
)
FollowsGap-gap p (g ∷ gs) k whole o text one (more, inner, outer, spells, follows, e) =
    let P : ℕ → Type 0 = λ m. FollowsTree gs whole (group g.start (extend g.parts more)) (m + 1) outer in (
      more,
      piece_text p ++ inner,
      outer,
      SpellsAll-gap p more o inner one spells,
      subst P (past-append o (piece_text p) inner) follows,
      ap (λ x. piece_text p ++ x) e ∙ sym (append_assoc (piece_text p) inner (41 ∷ outer)),
    )

-- ---- a tree at the front

EndsToken-front : (a b : List ℕ) → EndsToken (a ++ b) → EndsToken a
EndsToken-front [] b h = tt
EndsToken-front (x ∷ a) b h = h

IsApart-front : (u : Located) (a b : List ℕ) → IsApart u (a ++ b) → IsApart u a
IsApart-front (word pos name) a b h = EndsToken-front a b h
IsApart-front (number pos n) a b h = EndsToken-front a b h
IsApart-front (literal pos bits) a b h = EndsToken-front a b h
IsApart-front (group pos ts) a b h = tt

-- a tree in front of what follows it
pub FollowsGap-tree : (gs : List Group) (whole u : Located) (o : ℕ) (first rest : List ℕ) → Spells u first → offset_of u ≡ o → IsApart u rest → FollowsTree gs whole u (o + length first) rest → FollowsGap gs None whole o (first ++ rest)
FollowsGap-tree [] whole u o first rest spells place apart (last, same) =
    let P : Located → Type 0 = λ t. Spells t first × (offset_of t ≡ o + 0) × IsApart t rest in
    let moved : P whole = subst P (sym same) (spells, omega (arith, place), apart) in
    ([], first, rest, IsGap-nil, moved.0, moved.1, moved.2, last, refl)
FollowsGap-tree (g ∷ gs) whole u o first rest spells place apart (more, inner, outer, others, follows, e) =
    let A : List ℕ → Type 0 = IsApart u in
    let apart_inner = IsApart-front u inner (41 ∷ outer) (subst A e apart) in
    let P : ℕ → Type 0 = λ m. SpellsAll more (m + length first) inner in
    let Q : ℕ → Type 0 = λ m. FollowsTree gs whole (group g.start (extend (g.parts ++ u ∷ []) more)) (m + 1) outer in
    let R : Forest → Type 0 = λ ts. FollowsTree gs whole (group g.start ts) (o + length (first ++ inner) + 1) outer in (
      tree u more,
      first ++ inner,
      outer,
      ([], first, inner, IsGap-nil, spells, omega (arith, place), apart_inner, subst P (omega arith) others, refl),
      subst R (extend-push g.parts u more) (subst Q (past-append o first inner) follows),
      ap (λ x. first ++ x) e ∙ sym (append_assoc first inner (41 ∷ outer)),
    )

-- what follows an added tree
pub FollowsTree-add_to : (u : Located) (gs : List Group) (k : Option Located) (whole : Located) (o : ℕ) (text : List ℕ) → FollowsReading (add_to u gs k) whole o text → FollowsTree gs whole u o text
FollowsTree-add_to u [] k whole o text h = h
FollowsTree-add_to u (g ∷ gs) k whole o text h = h
