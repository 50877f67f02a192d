-- Reading goes through what is spelled: texts one after the other, gaps and tokens.
use Rattle.std.proofs.Common.{◌≡◌, ℕ, ◌+◌, ◌<◌, Bool, true, false, if◌then◌else◌, eqb, List, [], ◌∷◌, ◌++◌, length, codes, Option, Some, None, Result, refl, sym, ap, ap₂, ◌∙◌, subst, arith}
use Rattle.std.specs.Char.{len_utf8, encode_utf8}
use Rattle.std.specs.Str.{chars, encode_utf8_all, all_scalars}
use Rattle.std.proofs.Math.Utf8.{scalar, low_scalar}
use Rattle.std.proofs.lemmas.Bool.{and_parts}
use Rattle.std.proofs.lemmas.List.{append_assoc, append-nil, length-append}
use Rattle.std.proofs.lemmas.Str.{encode_ascii, length-encode, encodes-append, encodes-chars, scalars-chars, IsUtf8-from_is_utf8}
use Rattle.ipdl_tree.specs.declared.character.Beginning.{Beginning}
use Rattle.ipdl_tree.specs.declared.character.Beginning.TheVariants.{Blank, Comment}
use Rattle.ipdl_tree.specs.Trees.{Located}
use Rattle.ipdl_tree.specs.Causes.{Cause}
use Rattle.ipdl_tree.specs.Characters.{beginning_of}
use Rattle.ipdl_tree.specs.Reading.{continues, refusal_within, Token, no_token, comment, open_name, open_number, open_literal, Group, Reading, add_to, tree_of, extended, after_beginning, after, refusal_of_any_beginning, refusal_of, unless, read_on, finish, ◌>>=◌}
use Rattle.ipdl_tree.specs.Spelling.{ends_token, HasNoLineFeed, IsCommentText, Piece, blank, comment as comment_piece, piece_text, IsPiece, pieces_text, ArePieces, IsGap}
use Rattle.ipdl_tree.proofs.Characters.{eqb-same, is_blank-ascii}
use Rattle.ipdl_tree.proofs.Starts.{beginning-blank}

-- a test that refuses no more than the refusals, and no parenthesis while fewer than so many are open
pub record Allows (refuse : Reading → ℕ → Option Cause) (most : ℕ) : Type 0 where
  pub others : (r : Reading) (c : ℕ) → refusal_of r c ≡ None → refuse r c ≡ None
  pub opening : (gs : List Group) → length gs < most → refuse (record { token = no_token; groups = gs; complete = None }) 40 ≡ None
  pub ending : (token : Token) (u : Located) (gs : List Group) (c : ℕ) → tree_of token ≡ Some u → continues token c ≡ false → ends_token c ≡ true → refuse (record { token = token; groups = gs; complete = None }) c ≡ refuse (add_to u gs None) c

abbrev pub Refuse : Type 0
Refuse = Reading → ℕ → Option Cause

abbrev pub run : Refuse → Reading → ℕ → List ℕ → Result Located (ℕ × Cause)
run refuse r offset cs = read_on refuse r offset cs finish

abbrev pub at : Token → List Group → Option Located → Reading
at token gs k = record { token = token; groups = gs; complete = k }

-- one character that is not refused
pub run-step : (refuse : Refuse) (r : Reading) (o c : ℕ) (cs : List ℕ) → refuse r c ≡ None → run refuse r o (c ∷ cs) ≡ run refuse (after r o c) (o + len_utf8 c) cs
run-step refuse r o c cs none = ap (λ x. unless x o (after r o c) >>= λ next. read_on refuse next (o + len_utf8 c) cs finish) none

-- Reading goes from one state to another over the characters of a text, whatever follows that may follow.
pub record Passes (refuse : Refuse) (MayFollow : List ℕ → Type 0) (r q : Reading) (offset : ℕ) (text : List ℕ) : Type 0 where
  pub characters : List ℕ
  pub scalars : all_scalars characters ≡ true
  pub encoded : encode_utf8_all characters ≡ text
  pub runs : (ds : List ℕ) → MayFollow ds → run refuse r offset (characters ++ ds) ≡ run refuse q (offset + length text) ds

abbrev pub Anything : List ℕ → Type 0
Anything ds = Unit {0}

-- characters after characters
pub all_scalars-append : (a b : List ℕ) → all_scalars a ≡ true → all_scalars b ≡ true → all_scalars (a ++ b) ≡ true
all_scalars-append [] b h k = k
all_scalars-append (c ∷ a) b h k = let p = and_parts (scalar c) (all_scalars a) h in rw (p.0, all_scalars-append a b p.1 k) refl

-- one text after the other
pub Passes-append : (refuse : Refuse) (First Second : List ℕ → Type 0) (r q s : Reading) (o : ℕ) (a b : List ℕ) → (h : Passes refuse First r q o a) → (k : Passes refuse Second q s (o + length a) b) → ((ds : List ℕ) → Second ds → First (k.characters ++ ds)) → Passes refuse Second r s o (a ++ b)
Passes-append refuse First Second r q s o a b h k may = record {
  characters = h.characters ++ k.characters;
  scalars = all_scalars-append h.characters k.characters h.scalars k.scalars;
  encoded = encodes-append h.characters k.characters ∙ ap₂ (λ x y. x ++ y) h.encoded k.encoded;
  runs = λ ds follows.
      ap (run refuse r o) (append_assoc h.characters k.characters ds)
      ∙ h.runs (k.characters ++ ds) (may ds follows)
      ∙ k.runs ds follows
      ∙ ap (λ n. run refuse s n ds) (omega (arith, length-append a b));
}

-- no text
pub Passes-nil : (refuse : Refuse) (r : Reading) (o : ℕ) → Passes refuse Anything r r o []
Passes-nil refuse r o = record {
  characters = [];
  scalars = refl;
  encoded = refl;
  runs = λ ds follows. ap (λ n. run refuse r n ds) (omega arith);
}

-- one ASCII character
pub Passes-ascii : (refuse : Refuse) (r q : Reading) (o c : ℕ) → c < 128 → refuse r c ≡ None → after r o c ≡ q → Passes refuse Anything r q o (c ∷ [])
Passes-ascii refuse r q o c small none e =
    let one : len_utf8 c ≡ 1 = sym (length-encode c) ∙ ap length (encode_ascii c small) in
    record {
      characters = c ∷ [];
      scalars = rw (low_scalar c (omega arith)) refl;
      encoded = append-nil (encode_utf8 c) ∙ encode_ascii c small;
      runs = λ ds follows. run-step refuse r o c ds none ∙ ap₂ (λ x n. run refuse x (o + n) ds) e one;
    }

-- ---- gaps

-- what a character begins is not refused
pub refusal-beginning : (gs : List Group) (k : Option Located) (c : ℕ) (b : Beginning) → beginning_of c ≡ b → refusal_of_any_beginning (at no_token gs k) b ≡ None → refusal_of (at no_token gs k) c ≡ None
refusal-beginning gs k c b e none = ap (refusal_of_any_beginning (at no_token gs k)) e ∙ none

-- a character where no token is open
pub Passes-beginning : (refuse : Refuse) (gs : List Group) (k : Option Located) (o c : ℕ) (b : Beginning) → c < 128 → beginning_of c ≡ b → refuse (at no_token gs k) c ≡ None → Passes refuse Anything (at no_token gs k) (after_beginning (at no_token gs k) o c b) o (c ∷ [])
Passes-beginning refuse gs k o c b small e none =
    Passes-ascii refuse (at no_token gs k) (after_beginning (at no_token gs k) o c b) o c small none (ap (after_beginning (at no_token gs k) o c) e)

-- an equal text
pub Passes-text : (refuse : Refuse) (D : List ℕ → Type 0) (r q : Reading) (o : ℕ) (a b : List ℕ) → a ≡ b → Passes refuse D r q o a → Passes refuse D r q o b
Passes-text refuse D r q o a b e h = let P : List ℕ → Type 0 = Passes refuse D r q o in subst P e h

-- texts after which anything may follow
pub Passes-then : (refuse : Refuse) (D : List ℕ → Type 0) (r q s : Reading) (o : ℕ) (a b : List ℕ) → Passes refuse Anything r q o a → Passes refuse D q s (o + length a) b → Passes refuse D r s o (a ++ b)
Passes-then refuse D r q s o a b h k = Passes-append refuse Anything D r q s o a b h k (λ ds follows. tt)

-- the words of a comment
HasNoLineFeed-parts : (a b : List ℕ) → HasNoLineFeed (a ++ b) → HasNoLineFeed a × HasNoLineFeed b
HasNoLineFeed-parts [] b h = (tt, h)
HasNoLineFeed-parts (x ∷ a) b h = let p = HasNoLineFeed-parts a b h.1 in ((h.0, p.0), p.1)

no_line_feed : (c : ℕ) → HasNoLineFeed (encode_utf8 c) → eqb c 10 ≡ false
no_line_feed c h = go (eqb c 10) refl
  where
    go : (b : Bool) → eqb c 10 ≡ b → b ≡ false
    go false e = refl
    go true e =
        let same = eqb-same c 10 e in
        let Q : List ℕ → Type 0 = HasNoLineFeed in
        let ten : HasNoLineFeed (10 ∷ []) = subst Q (encode_ascii c (omega (arith, same)) ∙ ap (λ x. x ∷ []) same) h in
        ten.0

comment_on : (refuse : Refuse) (most : ℕ) → Allows refuse most → (cs : List ℕ) (gs : List Group) (k : Option Located) (o : ℕ) (ds : List ℕ) → HasNoLineFeed (encode_utf8_all cs) → run refuse (at comment gs k) o (cs ++ ds) ≡ run refuse (at comment gs k) (o + length (encode_utf8_all cs)) ds
comment_on refuse most allows [] gs k o ds none = ap (λ n. run refuse (at comment gs k) n ds) (omega arith)
comment_on refuse most allows (c ∷ cs) gs k o ds none =
    let p = HasNoLineFeed-parts (encode_utf8 c) (encode_utf8_all cs) none in
    run-step refuse (at comment gs k) o c (cs ++ ds) (allows.others (at comment gs k) c refl)
    ∙ ap (λ b. run refuse (if b then at no_token gs k else at comment gs k) (o + len_utf8 c) (cs ++ ds)) (no_line_feed c p.0)
    ∙ comment_on refuse most allows cs gs k (o + len_utf8 c) ds p.1
    ∙ ap (λ n. run refuse (at comment gs k) n ds) (omega (arith, length-append (encode_utf8 c) (encode_utf8_all cs), length-encode c))

-- the words of a comment pass
pub Passes-words : (refuse : Refuse) (most : ℕ) → Allows refuse most → (words : List ℕ) (gs : List Group) (k : Option Located) (o : ℕ) → IsCommentText words → Passes refuse Anything (at comment gs k) (at comment gs k) o words
Passes-words refuse most allows words gs k o is =
    let u = IsUtf8-from_is_utf8 words is.0 in
    let e = encodes-chars words u in
    let P : List ℕ → Type 0 = HasNoLineFeed in
    record {
      characters = chars words;
      scalars = scalars-chars words u;
      encoded = e;
      runs = λ ds follows. comment_on refuse most allows (chars words) gs k o ds (subst P (sym e) is.1) ∙ ap (λ n. run refuse (at comment gs k) n ds) (ap (λ x. o + length x) e);
    }

-- a semicolon
pub Passes-semicolon : (refuse : Refuse) (most : ℕ) → Allows refuse most → (gs : List Group) (k : Option Located) (o : ℕ) → Passes refuse Anything (at no_token gs k) (at comment gs k) o (codes ";")
Passes-semicolon refuse most allows gs k o =
    Passes-beginning refuse gs k o 59 Comment (omega arith) refl (allows.others (at no_token gs k) 59 refl)

Passes-piece : (refuse : Refuse) (most : ℕ) → Allows refuse most → (p : Piece) (gs : List Group) (k : Option Located) (o : ℕ) → IsPiece p → Passes refuse Anything (at no_token gs k) (at no_token gs k) o (piece_text p)
Passes-piece refuse most allows (blank b) gs k o is =
    let e = beginning-blank b is in
    Passes-beginning refuse gs k o b Blank (is_blank-ascii b is) e (allows.others (at no_token gs k) b (refusal-beginning gs k b Blank e refl))
Passes-piece refuse most allows (comment_piece words) gs k o is =
    Passes-then refuse Anything (at no_token gs k) (at comment gs k) (at no_token gs k) o (codes ";" ++ words) (codes "\n")
    (Passes-then refuse Anything (at no_token gs k) (at comment gs k) (at comment gs k) o (codes ";") words (Passes-semicolon refuse most allows gs k o) (Passes-words refuse most allows words gs k (o + 1) is))
    (Passes-ascii refuse (at comment gs k) (at no_token gs k) (o + length (codes ";" ++ words)) 10 (omega arith) (allows.others (at comment gs k) 10 refl) refl)

Passes-pieces : (refuse : Refuse) (most : ℕ) → Allows refuse most → (ps : List Piece) (gs : List Group) (k : Option Located) (o : ℕ) → ArePieces ps → Passes refuse Anything (at no_token gs k) (at no_token gs k) o (pieces_text ps)
Passes-pieces refuse most allows [] gs k o are = Passes-nil refuse (at no_token gs k) o
Passes-pieces refuse most allows (p ∷ ps) gs k o are =
    Passes-then refuse Anything (at no_token gs k) (at no_token gs k) (at no_token gs k) o (piece_text p) (pieces_text ps) (Passes-piece refuse most allows p gs k o are.0) (Passes-pieces refuse most allows ps gs k (o + length (piece_text p)) are.1)

-- a gap passes
pub Passes-gap : (refuse : Refuse) (most : ℕ) → Allows refuse most → (text : List ℕ) (gs : List Group) (k : Option Located) (o : ℕ) → IsGap text → Passes refuse Anything (at no_token gs k) (at no_token gs k) o text
Passes-gap refuse most allows text gs k o (pieces, are, e) =
    Passes-text refuse Anything (at no_token gs k) (at no_token gs k) o (pieces_text pieces) text (sym e) (Passes-pieces refuse most allows pieces gs k o are)

-- ---- a token goes on, and ends

token_goes_on : (token : Token) (gs : List Group) (c o : ℕ) → continues token c ≡ true → refusal_within token c ≡ None → (refusal_of (at token gs None) c ≡ None) × (after (at token gs None) o c ≡ at (extended token c) gs None)
token_goes_on no_token gs c o goes none = absurd (let x : ⊥ = cc in x)
token_goes_on comment gs c o goes none = absurd (let x : ⊥ = cc in x)
token_goes_on (open_name start text) gs c o goes none = (rw goes none, rw goes refl)
token_goes_on (open_number start value) gs c o goes none = (rw goes none, rw goes refl)
token_goes_on (open_literal start bits) gs c o goes none = (rw goes none, rw goes refl)

-- one character that goes on with a token
pub run-token : (refuse : Refuse) (most : ℕ) → Allows refuse most → (token : Token) (gs : List Group) (c o : ℕ) (ds : List ℕ) → continues token c ≡ true → refusal_within token c ≡ None → run refuse (at token gs None) o (c ∷ ds) ≡ run refuse (at (extended token c) gs None) (o + len_utf8 c) ds
run-token refuse most allows token gs c o ds goes none =
    let p = token_goes_on token gs c o goes none in
    run-step refuse (at token gs None) o c ds (allows.others (at token gs None) c p.0) ∙ ap (λ r. run refuse r (o + len_utf8 c) ds) p.1
