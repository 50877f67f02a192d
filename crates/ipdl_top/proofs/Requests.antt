-- Words are those of one request at most, which is found by a function.
use Rattle.std.proofs.Common.{◌≡◌, ◌^◌, ◌<◌, ◌&&◌, ◌||◌, ℕ, Bool, true, false, List, [], ◌∷◌, Option, Some, None, Result, Ok, Err, refl, sym, ap, ◌∙◌, subst, arith}
use Rattle.std.specs.Prelude.{◌↔◌, ◌⊎◌, IsTrue, IfOk, IfSome, IfNone, OnErr, option_map, codes, bytes_eq, nat_eq, nat_lt, if◌then◌else◌}
use Rattle.std.specs.Fmt.{decimal}
use Rattle.std.specs.Str.Parse.{digits_value, ParsesUnsigned}
use Rattle.std.proofs.Common.{inl, inr}
use Rattle.std.proofs.lemmas.Bool.Decides.{nat_tests}
use Rattle.std.proofs.lemmas.Fmt.{decimal_is_IsNumeral, parse-decimal}
use Rattle.std.proofs.lemmas.Option.{same_Some}
use Rattle.std.proofs.lemmas.Slice.Eq.{bytes_eq-Decides}
use Rattle.ipdl_base.specs.Names.{is_name}
use Rattle.ipdl_tree.specs.Spelling.{bit_digit}
use Rattle.ipdl_top.specs.Told.{request_of}
use Rattle.ipdl_top.specs.declared.request.Request.{Request as Asked}
use Rattle.ipdl_top.specs.Requests.{Request, check, types, run_item, tape_word, request_words, IsAskable, AskFor, AreOfNoForm, is_tape, tape_of, is_order, order_in, run_request, request_in}

-- ---- tapes

is_tape-word : (tape : List Bool) → is_tape (tape_word tape) ≡ true
is_tape-word [] = refl
is_tape-word (true ∷ tape) = is_tape-word tape
is_tape-word (false ∷ tape) = is_tape-word tape

tape_of-word : (tape : List Bool) → tape_of (tape_word tape) ≡ tape
tape_of-word [] = refl
tape_of-word (true ∷ tape) = ap (λ t. true ∷ t) (tape_of-word tape)
tape_of-word (false ∷ tape) = ap (λ t. false ∷ t) (tape_of-word tape)

both : (a b : Bool) → (a && b) ≡ true → (a ≡ true) × (b ≡ true)
both true true e = (refl, refl)
both true false e = cc
both false b e = cc

a_digit : (c : ℕ) (b d : Bool) → nat_eq c 48 ≡ b → nat_eq c 49 ≡ d → (b || d) ≡ true → bit_digit d ≡ c
a_digit c b true e f h = let is : c ≡ 49 = grind (arith, nat_tests) in sym is
a_digit c true false e f h = let is : c ≡ 48 = grind (arith, nat_tests) in sym is
a_digit c false false e f h = cc

tape_word-of : (word : List ℕ) → is_tape word ≡ true → tape_word (tape_of word) ≡ word
tape_word-of [] h = refl
tape_word-of (c ∷ word) h =
    let parts = both (nat_eq c 48 || nat_eq c 49) (is_tape word) h in
    ap (λ (d : ℕ). d ∷ tape_word (tape_of word)) (a_digit c (nat_eq c 48) (nat_eq c 49) refl refl parts.0) ∙
    ap (λ w. c ∷ w) (tape_word-of word parts.1)

-- ---- orders

true_is : (b : Bool) → IsTrue b → b ≡ true
true_is true h = refl
true_is false h = cc

is_order-decimal : (n : ℕ) → n < 2 ^ 64 → is_order (decimal n) n ≡ true
is_order-decimal n h =
    let below : nat_lt n (2 ^ 64) ≡ true = grind (arith, nat_tests, h) in
    let same : bytes_eq (decimal n) (decimal n) ≡ true = (bytes_eq-Decides (decimal n) (decimal n)).1 refl in
    rw (below, same) refl

order_of-decimal : (n : ℕ) → n < 2 ^ 64 → digits_value 10 (decimal n) ≡ n
order_of-decimal n h = (decimal_is_IsNumeral n h).1

order_is : (word : List ℕ) (n : ℕ) → is_order word n ≡ true → (n < 2 ^ 64) × (word ≡ decimal n)
order_is word n h =
    let parts = both (nat_lt n (2 ^ 64)) (bytes_eq word (decimal n)) h in
    (grind (arith, nat_tests, parts.0), (bytes_eq-Decides word (decimal n)).0 parts.1)

by_order : (b : Bool) (n : ℕ) → b ≡ true → (if b then Some n else None) ≡ Some n
by_order true n e = refl
by_order false n e = cc

-- a number that is written so is found
pub order_found : (word : List ℕ) (n : ℕ) → n < 2 ^ 64 → decimal n ≡ word → Some n ≡ order_in word
order_found word n small e =
    subst (λ w. Some n ≡ order_in w) e
    (sym (by_order (is_order (decimal n) (digits_value 10 (decimal n))) (digits_value 10 (decimal n)) (rw (order_of-decimal n small) (is_order-decimal n small)) ∙ ap Some (order_of-decimal n small)))

-- a word that is parsed as no number that is written so has none
pub order_missing : {E : Type 0} (word : List ℕ) (r : Result ℕ E) → ParsesUnsigned 64 10 word r → ((n : ℕ) → r ≡ Ok n → decimal n ≡ word → ⊥) → None ≡ order_in word
order_missing word r parsed none = by (is_order word (digits_value 10 word)) refl
  where
    by : (b : Bool) → is_order word (digits_value 10 word) ≡ b → None ≡ (if b then Some (digits_value 10 word) else None)
    by false e = refl
    by true e =
        let is = order_is word (digits_value 10 word) e in
        absurd (none (digits_value 10 word) (parse-decimal 64 (digits_value 10 word) word r is.0 is.0 is.1 parsed) (sym is.1))

all_hold : (b c d : Bool) → b ≡ true → c ≡ true → d ≡ true → ((b && c) && d) ≡ true
all_hold true true true e f g = refl
all_hold false _ _ e f g = cc
all_hold true false _ e f g = cc
all_hold true true false e f g = cc

-- ---- three words of which the last two are right

order_in-some : (word : List ℕ) (n : ℕ) → order_in word ≡ Some n → is_order word (digits_value 10 word) ≡ true
order_in-some word n = by (is_order word (digits_value 10 word))
  where
    by : (b : Bool) → (if b then Some (digits_value 10 word) else None) ≡ Some n → b ≡ true
    by true e = refl
    by false e = cc

no_false : (b : Bool) → (b ≡ false → ⊥) → b ≡ true
no_false true h = refl
no_false false h = absurd (h refl)

pub run_request-named : (name tape order : List ℕ) (n : ℕ) → is_tape tape ≡ true → order_in order ≡ Some n → (is_name name ≡ false → ⊥) → (request : Request) × (run_request name tape order ≡ Some request)
run_request-named name tape order n taped ordered named =
    let test = all_hold (is_tape tape) (is_order order (digits_value 10 order)) (is_name name) taped (order_in-some order n ordered) (no_false (is_name name) named) in
    (run_item name (tape_of tape) (digits_value 10 order), rw test refl)

-- ---- the words of a request are its words

run_request-words : (name : List ℕ) (tape : List Bool) (order : ℕ) → IsTrue (is_name name) → order < 2 ^ 64 → run_request name (tape_word tape) (decimal order) ≡ Some (run_item name tape order)
run_request-words name tape order named small =
    let value = order_of-decimal order small in
    let ordered : is_order (decimal order) (digits_value 10 (decimal order)) ≡ true = rw value (is_order-decimal order small) in
    let test = all_hold (is_tape (tape_word tape)) (is_order (decimal order) (digits_value 10 (decimal order))) (is_name name) (is_tape-word tape) ordered (true_is (is_name name) named) in
    rw (test, tape_of-word tape, value) refl

pub request_in-words : (request : Request) → IsAskable request → request_in (request_words request) ≡ Some request
request_in-words check askable = refl
request_in-words types askable = refl
request_in-words (run_item name tape order) askable = run_request-words name tape order askable.0 askable.1

-- the one word of a request
one_word : (word : List ℕ) (b c : Bool) → bytes_eq word (codes "check") ≡ b → bytes_eq word (codes "types") ≡ c → (request : Request) → (if b then Some check else (if c then Some types else None)) ≡ Some request → AskFor (word ∷ []) request
one_word word true c is is' check e = (ap (λ w. w ∷ []) ((bytes_eq-Decides word (codes "check")).0 is), tt)
one_word word true c is is' types e = cc
one_word word true c is is' (run_item name tape order) e = cc
one_word word false true is is' check e = cc
one_word word false true is is' types e = (ap (λ w. w ∷ []) ((bytes_eq-Decides word (codes "types")).0 is'), tt)
one_word word false true is is' (run_item name tape order) e = cc
one_word word false false is is' request e = cc

-- the three words after `run`
three_words : (name tape order : List ℕ) (b : Bool) → ((is_tape tape && is_order order (digits_value 10 order)) && is_name name) ≡ b → (request : Request) → (if b then Some (run_item name (tape_of tape) (digits_value 10 order)) else None) ≡ Some request → AskFor (codes "run" ∷ name ∷ tape ∷ order ∷ []) request
three_words name tape order false h request e = cc
three_words name tape order true h request e =
    let parts = both (is_tape tape && is_order order (digits_value 10 order)) (is_name name) h in
    let first = both (is_tape tape) (is_order order (digits_value 10 order)) parts.0 in
    let number = order_is order (digits_value 10 order) first.1 in
    let words : AskFor (codes "run" ∷ name ∷ tape ∷ order ∷ []) (run_item name (tape_of tape) (digits_value 10 order)) = (
      ap (λ (t : List ℕ). codes "run" ∷ name ∷ t ∷ order ∷ []) (sym (tape_word-of tape first.0)) ∙
          ap (λ (o : List ℕ). codes "run" ∷ name ∷ tape_word (tape_of tape) ∷ o ∷ []) number.1,
      (parts.1, number.0),
    ) in
    subst (AskFor (codes "run" ∷ name ∷ tape ∷ order ∷ [])) (same_Some (run_item name (tape_of tape) (digits_value 10 order)) request e) words

four_words : (word name tape order : List ℕ) (b : Bool) → bytes_eq word (codes "run") ≡ b → (request : Request) → (if b then run_request name tape order else None) ≡ Some request → AskFor (word ∷ name ∷ tape ∷ order ∷ []) request
four_words word name tape order false is request e = cc
four_words word name tape order true is request e =
    subst (λ (w : List ℕ). AskFor (w ∷ name ∷ tape ∷ order ∷ []) request) (sym ((bytes_eq-Decides word (codes "run")).0 is))
    (three_words name tape order _ refl request e)

pub words_of_request_in : (words : List (List ℕ)) (request : Request) → request_in words ≡ Some request → AskFor words request
words_of_request_in [] request e = cc
words_of_request_in (word ∷ []) request e =
    one_word word (bytes_eq word (codes "check")) (bytes_eq word (codes "types")) refl refl request e
words_of_request_in (word ∷ name ∷ []) request e = cc
words_of_request_in (word ∷ name ∷ tape ∷ []) request e = cc
words_of_request_in (word ∷ name ∷ tape ∷ order ∷ []) request e =
    four_words word name tape order (bytes_eq word (codes "run")) refl request e
words_of_request_in (word ∷ name ∷ tape ∷ order ∷ other ∷ words) request e = cc

pub request_in-asked : (words : List (List ℕ)) (request : Request) → AskFor words request → request_in words ≡ Some request
request_in-asked words request asks = ap request_in asks.0 ∙ request_in-words request asks.1

pub one_request_exactly : (words : List (List ℕ)) (request : Request) → (request_in words ≡ Some request) ↔ AskFor words request
one_request_exactly words request = (words_of_request_in words request, request_in-asked words request)

-- ---- no two requests have one form

pub same_request : (words : List (List ℕ)) (r s : Request) → AskFor words r → AskFor words s → r ≡ s
same_request words r s asks asks' = same_Some r s (sym (request_in-asked words r asks) ∙ request_in-asked words s asks')

pub AreOfNoForm-none : (words : List (List ℕ)) → request_in words ≡ None → AreOfNoForm words
AreOfNoForm-none words none request asks =
    let found = request_in-asked words request asks in cc (found, none)

-- words are those of a request or of none
pub some_request_or_none : (words : List (List ℕ)) → AreOfNoForm words ⊎ ((request : Request) × AskFor words request)
some_request_or_none words = by_found (request_in words) refl
  where
    by_found : (found : Option Request) → request_in words ≡ found → AreOfNoForm words ⊎ ((request : Request) × AskFor words request)
    by_found None e = inl (AreOfNoForm-none words e)
    by_found (Some request) e = inr (request, words_of_request_in words request e)

-- ---- what the program found, unless memory ran out

pub form_of_found : {E : Type 0} (words : List (List ℕ)) (result : Result (Option Asked) E) → IfOk result (λ found. option_map request_of found ≡ request_in words) → IfOk result (λ found. IfSome found (λ r. AskFor words (request_of r)))
form_of_found words (Ok None) e = tt
form_of_found words (Ok (Some r)) e = words_of_request_in words (request_of r) (sym e)
form_of_found words (Err x) e = tt

pub none_of_found : {E : Type 0} (words : List (List ℕ)) (result : Result (Option Asked) E) → IfOk result (λ found. option_map request_of found ≡ request_in words) → IfOk result (λ found. IfNone found (AreOfNoForm words))
none_of_found words (Ok None) e = AreOfNoForm-none words (sym e)
none_of_found words (Ok (Some r)) e = tt
none_of_found words (Err x) e = tt

pub memory_of_found : {X E : Type 0} (words : List (List ℕ)) (result : Result X E) → OnErr result ((request : Request) × (request_in words ≡ Some request)) → OnErr result ((request : Request) × AskFor words request)
memory_of_found words (Ok x) h = tt
memory_of_found words (Err x) h = (h.0, words_of_request_in words h.0 h.1)
