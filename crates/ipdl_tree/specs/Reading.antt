-- Reading a source, one character after the other: what has been read of the tree so far, and why the next character is refused.
use Rattle.std.specs.Prelude.{ℕ, ◌+◌, ◌-◌, ◌*◌, ◌^◌, ◌==◌, Bool, true, false, not, ◌&&◌, ◌||◌, IsTrue, List, [], ◌∷◌, ◌++◌, length, take, Option, Some, None, is_some, Result, Ok, Err, nat_le, nat_lt, if◌then◌else◌}
use Rattle.std.specs.Char.{len_utf8, encode_utf8}
use Rattle.std.specs.Str.{chars}
use Rattle.std.specs.Str.Lossy.{utf8_valid_len}
use Rattle.ipdl_base.specs.Names.{continues_name, is_name}
use Rattle.ipdl_tree.specs.Trees.{Located, word, number, literal, group, most_open}
use Rattle.ipdl_tree.specs.Spelling.{ends_token}
use Rattle.ipdl_tree.specs.Causes.{Cause, bad_byte, bad_name, extra, deep, unclosed, no_text}
use Rattle.ipdl_tree.specs.Characters.{is_digit, beginning_of}
use Rattle.ipdl_tree.specs.Views.{forest}
use Rattle.ipdl_tree.specs.declared.character.Beginning.{Beginning}
use Rattle.ipdl_tree.specs.declared.character.Beginning.TheVariants.{Blank, Comment, Opening, Closing, Number, Literal, Word, Nothing}

-- a token that is open, with the offset of its first character, or a comment
pub data Token : Type 0 where
  no_token : Token
  comment : Token
  open_name : (start : ℕ) → (text : List ℕ) → Token
  open_number : (start : ℕ) → (value : ℕ) → Token
  open_literal : (start : ℕ) → (bits : List Bool) → Token

-- parentheses that are open, with the trees between them so far
pub record Group : Type 0 where
  pub start : ℕ
  pub parts : List Located

-- the innermost group comes first
pub record Reading : Type 0 where
  pub token : Token
  pub groups : List Group
  pub complete : Option Located

-- before the first character
abbrev pub nothing_read : Reading
nothing_read = record { token = no_token; groups = []; complete = None }

-- the next tree of the innermost group, or else the whole tree
abbrev pub add_to : Located → List Group → Option Located → Reading
add_to t [] complete = record { token = no_token; groups = []; complete = Some t }
add_to t (g ∷ gs) complete = record { token = no_token; groups = record { start = g.start; parts = g.parts ++ t ∷ [] } ∷ gs; complete = complete }

-- the innermost group is closed
abbrev pub close : List Group → Option Located → Reading
close [] complete = record { token = no_token; groups = []; complete = complete }
close (g ∷ gs) complete = add_to (group g.start (forest g.parts)) gs complete

-- the tree of a token that ends
abbrev pub tree_of : Token → Option Located
tree_of no_token = None
tree_of comment = None
tree_of (open_name start text) = Some (word start text)
tree_of (open_number start value) = Some (number start value)
tree_of (open_literal start bits) = Some (literal start bits)

-- with the tree of the token that ends
abbrev pub ended_with : Option Located → Reading → Reading
ended_with None r = record r { token = no_token }
ended_with (Some t) r = add_to t r.groups r.complete

-- the open token ends
abbrev pub ended : Reading → Reading
ended r = ended_with (tree_of r.token) r

-- whether a character goes on with a token, the limits on its length and value apart
abbrev pub continues : Token → ℕ → Bool
continues no_token c = false
continues comment c = false
continues (open_name start text) c = continues_name c
continues (open_number start value) c = is_digit c
continues (open_literal start bits) c = (c == 48) || (c == 49)

-- the token with a character that goes on with it
abbrev pub extended : Token → ℕ → Token
extended no_token c = no_token
extended comment c = comment
extended (open_name start text) c = open_name start (text ++ encode_utf8 c)
extended (open_number start value) c = open_number start (10 * value + (c - 48))
extended (open_literal start bits) c = open_literal start (bits ++ (c == 49) ∷ [])

-- a character where no token is open, at an offset
abbrev pub after_beginning : Reading → ℕ → ℕ → Beginning → Reading
after_beginning r offset c Blank = record r { token = no_token }
after_beginning r offset c Comment = record r { token = comment }
after_beginning r offset c Opening = record { token = no_token; groups = record { start = offset; parts = [] } ∷ r.groups; complete = r.complete }
after_beginning r offset c Closing = close r.groups r.complete
after_beginning r offset c Number = record r { token = open_number offset (c - 48) }
after_beginning r offset c Literal = record r { token = open_literal offset [] }
after_beginning r offset c Word = record r { token = open_name offset (encode_utf8 c) }
after_beginning r offset c Nothing = r

-- a character where a token is open
abbrev pub after_in_token : Reading → ℕ → ℕ → Reading
after_in_token r offset c =
    if continues r.token c then record r { token = extended r.token c }
    else after_beginning (ended r) offset c (beginning_of c)

-- any character, at an offset
abbrev pub after : Reading → ℕ → ℕ → Reading
after r offset c = by_token r.token
  where
    by_token : Token → Reading
    by_token no_token = after_beginning r offset c (beginning_of c)
    by_token comment = if c == 10 then record r { token = no_token } else r
    by_token (open_name start text) = after_in_token r offset c
    by_token (open_number start value) = after_in_token r offset c
    by_token (open_literal start bits) = after_in_token r offset c

-- ---- why a character is refused

-- where it begins something
abbrev pub refusal_of_beginning : Reading → Beginning → Option Cause
refusal_of_beginning r Blank = None
refusal_of_beginning r Comment = None
refusal_of_beginning r Opening = if nat_lt (length r.groups) most_open then None else Some deep
refusal_of_beginning r Closing = if length r.groups == 0 then Some bad_byte else None
refusal_of_beginning r Number = None
refusal_of_beginning r Literal = None
refusal_of_beginning r Word = None
refusal_of_beginning r Nothing = Some bad_byte

-- whether that may follow a complete tree
abbrev pub fills_gap : Beginning → Bool
fills_gap Blank = true
fills_gap Comment = true
fills_gap _ = false

-- and where the tree may be complete already
abbrev pub refusal_of_any_beginning : Reading → Beginning → Option Cause
refusal_of_any_beginning r beginning =
    if not (fills_gap beginning) && is_some r.complete then Some extra else refusal_of_beginning r beginning

-- where it goes on with a token
abbrev pub refusal_within : Token → ℕ → Option Cause
refusal_within no_token c = None
refusal_within comment c = None
refusal_within (open_name start text) c = if nat_le (length text + len_utf8 c) 64 then None else Some bad_name
refusal_within (open_number start value) c =
    if not (value == 0) && nat_lt (10 * value + (c - 48)) (2 ^ 32) then None else Some bad_byte
refusal_within (open_literal start bits) c = if nat_lt (length bits) 128 then None else Some bad_byte

-- where a token is open
abbrev pub refusal_in_token : Reading → ℕ → Option Cause
refusal_in_token r c =
    if continues r.token c then refusal_within r.token c
    else (if ends_token c then refusal_of_any_beginning (ended r) (beginning_of c) else Some bad_byte)

-- in any state
abbrev pub refusal_of : Reading → ℕ → Option Cause
refusal_of r c = by_token r.token
  where
    by_token : Token → Option Cause
    by_token no_token = refusal_of_any_beginning r (beginning_of c)
    by_token comment = None
    by_token (open_name start text) = refusal_in_token r c
    by_token (open_number start value) = refusal_in_token r c
    by_token (open_literal start bits) = refusal_in_token r c

-- a name that is open is one so far
abbrev pub IsNameToken : Token → Type 0
IsNameToken (open_name start text) = IsTrue (is_name text)
IsNameToken _ = Unit {0}

-- ---- a whole source

-- one step, and then another one
infixl 10 ◌>>=◌
abbrev pub ◌>>=◌ : {A B : Type 0} → Result A (ℕ × Cause) → (A → Result B (ℕ × Cause)) → Result B (ℕ × Cause)
(Ok x) >>= f = f x
(Err e) >>= f = Err e

-- a value, unless there is a refusal
abbrev pub unless : {A : Type 0} → Option Cause → ℕ → A → Result A (ℕ × Cause)
unless None offset x = Ok x
unless (Some cause) offset x = Err (offset, cause)

-- one character, where a test refuses some
abbrev pub step : (Reading → ℕ → Option Cause) → Reading → ℕ → ℕ → Result Reading (ℕ × Cause)
step refuse r offset c = unless (refuse r c) offset (after r offset c)

-- the characters from an offset on, and then their end
abbrev pub read_on : {A : Type 0} → (Reading → ℕ → Option Cause) → Reading → ℕ → List ℕ → (Reading → ℕ → Result A (ℕ × Cause)) → Result A (ℕ × Cause)
read_on refuse r offset [] at_end = at_end r offset
read_on refuse r offset (c ∷ cs) at_end =
    step refuse r offset c >>= λ next. read_on refuse next (offset + len_utf8 c) cs at_end

-- the tree that was read, where no token is open
abbrev pub whole : List Group → Option Located → ℕ → Result Located (ℕ × Cause)
whole (g ∷ gs) complete offset = Err (offset, unclosed)
whole [] None offset = Err (offset, no_text)
whole [] (Some t) offset = Ok t

-- and where one may be open
abbrev pub finish : Reading → ℕ → Result Located (ℕ × Cause)
finish r offset = whole (ended r).groups (ended r).complete offset

-- the tree that a source spells, or why it spells none
unfoldable pub read_source : List ℕ → Result Located (ℕ × Cause)
read_source source =
    let valid = utf8_valid_len source in
    read_on refusal_of nothing_read 0 (chars (take valid source))
    (λ r offset. if valid == length source then finish r offset else Err (offset, bad_byte))
