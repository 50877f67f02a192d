-- What may be asked of a source, and the words that ask it.
use Rattle.std.specs.Prelude.{◌≡◌, ◌^◌, ◌<◌, ◌&&◌, ◌||◌, ℕ, Bool, List, [], ◌∷◌, map, codes, bytes_eq, nat_eq, nat_lt, IsTrue, Option, Some, None, if◌then◌else◌}
use Rattle.std.specs.Fmt.{decimal}
use Rattle.std.specs.List.{list_all}
use Rattle.std.specs.Str.Parse.{digits_value}
use Rattle.ipdl_base.specs.Names.{is_name}
use Rattle.ipdl_tree.specs.Spelling.{bit_digit}

pub data Request : Type 0 where
  -- to check its theorems
  check : Request
  -- to say what its items have
  types : Request
  -- to run the closed protocol of the name on a tape, its events in an order
  run_item : (name : List ℕ) → (tape : List Bool) → (order : ℕ) → Request

-- a tape is written as a digit for each bit
abbrev pub tape_word : List Bool → List ℕ
tape_word tape = map bit_digit tape

abbrev pub request_words : Request → List (List ℕ)
request_words check = codes "check" ∷ []
request_words types = codes "types" ∷ []
request_words (run_item name tape order) = codes "run" ∷ name ∷ tape_word tape ∷ decimal order ∷ []

-- the name is a name, and the order has 64 bits
abbrev pub IsAskable : Request → Type 0
IsAskable check = Unit {0}
IsAskable types = Unit {0}
IsAskable (run_item name tape order) = IsTrue (is_name name) × (order < 2 ^ 64)

-- the words are those of the request
abbrev pub AskFor : List (List ℕ) → Request → Type 0
AskFor words request = (words ≡ request_words request) × IsAskable request

-- words that are those of no request
abbrev pub AreOfNoForm : List (List ℕ) → Type 0
AreOfNoForm words = (request : Request) → AskFor words request → ⊥

-- words at which nothing of the source is read
abbrev pub ReadsNothing : List (List ℕ) → Type 0
ReadsNothing words = AreOfNoForm words

-- ---- the request, found in the words

-- the request of one word
abbrev pub request_named : List ℕ → Option Request
request_named word =
    if bytes_eq word (codes "check") then Some check
    else (if bytes_eq word (codes "types") then Some types else None)

-- whether a word has the two digits of bits alone
abbrev pub is_tape : List ℕ → Bool
is_tape word = list_all (λ c. nat_eq c 48 || nat_eq c 49) word

-- the bits that a word of digits writes
abbrev pub tape_of : List ℕ → List Bool
tape_of word = map (λ c. nat_eq c 49) word

-- whether a word writes this number of 64 bits
abbrev pub is_order : List ℕ → ℕ → Bool
is_order word n = nat_lt n (2 ^ 64) && bytes_eq word (decimal n)

-- the number of 64 bits that a word writes in decimal digits, without a zero in front
abbrev pub order_in : List ℕ → Option ℕ
order_in word = if is_order word (digits_value 10 word) then Some (digits_value 10 word) else None

-- the request to run what these three words say
abbrev pub run_request : (name tape order : List ℕ) → Option Request
run_request name tape order =
    if (is_tape tape && is_order order (digits_value 10 order)) && is_name name
    then Some (run_item name (tape_of tape) (digits_value 10 order)) else None

-- the request whose words these are
abbrev pub request_in : List (List ℕ) → Option Request
request_in (word ∷ []) = request_named word
request_in (word ∷ name ∷ tape ∷ order ∷ []) =
    if bytes_eq word (codes "run") then run_request name tape order else None
request_in _ = None
