-- Which bytes spell a tree, and the one spelling that is written.
use Rattle.std.specs.Prelude.{◌≡◌, ℕ, suc, ◌+◌, ◌<◌, ◌≤◌, ◌^◌, ◌==◌, ◌||◌, Bool, true, false, IsTrue, List, [], ◌∷◌, ◌++◌, length, map, codes, ◌⊎◌, if◌then◌else◌}
use Rattle.std.specs.Fmt.{decimal}
use Rattle.std.specs.Str.{is_utf8}
use Rattle.ipdl_base.specs.Names.{is_name}
use Rattle.ipdl_tree.specs.Trees.{Located, word, number, literal, group, Forest, no_trees, tree, offset_of}

-- ---- between tokens

-- space, tab, line feed and carriage return
abbrev pub is_blank : ℕ → Bool
is_blank b = (b == 32) || ((b == 9) || ((b == 10) || (b == 13)))

-- whether a token ends before the byte: a blank, a parenthesis or a `;`
abbrev pub ends_token : ℕ → Bool
ends_token b = is_blank b || ((b == 40) || ((b == 41) || (b == 59)))

-- no byte is a line feed
abbrev pub HasNoLineFeed : List ℕ → Type 0
HasNoLineFeed [] = Unit {0}
HasNoLineFeed (b ∷ bs) = ((b == 10) ≡ false) × HasNoLineFeed bs

-- the text of a comment: characters, and no line feed
abbrev pub IsCommentText : List ℕ → Type 0
IsCommentText text = IsTrue (is_utf8 text) × HasNoLineFeed text

-- a piece of what may stand between tokens
pub data Piece : Type 0 where
  blank : (byte : ℕ) → Piece
  comment : (text : List ℕ) → Piece

abbrev pub piece_text : Piece → List ℕ
piece_text (blank b) = b ∷ []
piece_text (comment text) = codes ";" ++ text ++ codes "\n"

abbrev pub IsPiece : Piece → Type 0
IsPiece (blank b) = IsTrue (is_blank b)
IsPiece (comment text) = IsCommentText text

abbrev pub pieces_text : List Piece → List ℕ
pieces_text [] = []
pieces_text (piece ∷ pieces) = piece_text piece ++ pieces_text pieces

abbrev pub ArePieces : List Piece → Type 0
ArePieces [] = Unit {0}
ArePieces (piece ∷ pieces) = IsPiece piece × ArePieces pieces

-- any number of blanks and comments
abbrev pub IsGap : List ℕ → Type 0
IsGap text = (pieces : List Piece) × ArePieces pieces × (text ≡ pieces_text pieces)

-- a gap, and at most one comment that the end of the source cuts off
abbrev pub IsLastGap : List ℕ → Type 0
IsLastGap text =
    IsGap text ⊎ ((gap : List ℕ) × (cut : List ℕ) × IsGap gap × IsCommentText cut × (text ≡ gap ++ codes ";" ++ cut))

-- ---- trees

-- nothing follows, or a byte before which a token ends
abbrev pub EndsToken : List ℕ → Type 0
EndsToken [] = Unit {0}
EndsToken (b ∷ bs) = IsTrue (ends_token b)

-- what follows a tree does not go on with its token
abbrev pub IsApart : Located → List ℕ → Type 0
IsApart (word pos name) rest = EndsToken rest
IsApart (number pos n) rest = EndsToken rest
IsApart (literal pos bits) rest = EndsToken rest
IsApart (group pos ts) rest = Unit {0}

abbrev pub bit_digit : Bool → ℕ
bit_digit true = 49
bit_digit false = 48

-- the bytes spell the tree, whose first character stands at its offset
abbrev mutual
  pub Spells : Located → List ℕ → Type 0
  Spells (word pos name) text = IsTrue (is_name name) × (text ≡ name)
  Spells (number pos n) text = (n < 2 ^ 32) × (text ≡ decimal n)
  Spells (literal pos bits) text = (length bits ≤ 128) × (text ≡ codes "#" ++ map bit_digit bits)
  Spells (group pos ts) text = (inner : List ℕ) × SpellsAll ts (suc pos) inner × (text ≡ codes "(" ++ inner ++ codes ")")

  -- the bytes from an offset on spell the trees, one after the other, with gaps around them
  pub SpellsAll : Forest → ℕ → List ℕ → Type 0
  SpellsAll no_trees offset text = IsGap text
  SpellsAll (tree t ts) offset text =
      (gap : List ℕ) × (first : List ℕ) × (rest : List ℕ) × IsGap gap × Spells t first
      × (offset_of t ≡ offset + length gap) × IsApart t rest
      × SpellsAll ts (offset + length gap + length first) rest × (text ≡ gap ++ first ++ rest)

-- all bytes of a source spell the tree, with gaps around it
abbrev pub SpellsSource : Located → List ℕ → Type 0
SpellsSource t source =
    (gap : List ℕ) × (text : List ℕ) × (rest : List ℕ) × IsGap gap × Spells t text
    × (offset_of t ≡ length gap) × IsApart t rest × IsLastGap rest × (source ≡ gap ++ text ++ rest)

-- ---- the one spelling that is written: one blank between two parts, and none elsewhere

abbrev mutual
  pub tree_text : Located → List ℕ
  tree_text (word pos name) = name
  tree_text (number pos n) = decimal n
  tree_text (literal pos bits) = codes "#" ++ map bit_digit bits
  tree_text (group pos ts) = codes "(" ++ forest_text ts ++ codes ")"

  pub forest_text : Forest → List ℕ
  forest_text no_trees = []
  forest_text (tree t ts) = tree_text t ++ more_text ts

  -- the trees after another one
  pub more_text : Forest → List ℕ
  more_text no_trees = []
  more_text (tree t ts) = codes " " ++ tree_text t ++ more_text ts

-- what is written before the part of a group at an index, counted from 0
abbrev pub blank_before : ℕ → List ℕ
blank_before index = if index == 0 then [] else codes " "
