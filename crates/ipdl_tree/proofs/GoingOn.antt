-- Where a source is refused: what stands before goes on to a tree, and with the next character it does not.
use Rattle.std.proofs.Common.{◌≡◌, ℕ, zero, suc, ◌+◌, ◌-◌, ◌<◌, ◌≤◌, Bool, true, false, if◌then◌else◌, leb, ltb, List, [], ◌∷◌, ◌++◌, length, take, drop, Option, Some, None, Result, Ok, Err, ◌⊎◌, inl, inr, ⊎_elim, refl, sym, ap, ap₂, ◌∙◌, subst, arith}
use Rattle.std.specs.Prelude.{◌==◌}
use Rattle.std.specs.Char.{len_utf8, encode_utf8, IsScalar}
use Rattle.std.specs.Str.{IsUtf8, is_utf8, chars, encode_utf8_all, all_scalars}
use Rattle.std.specs.Str.Lossy.{utf8_valid_len, valid_len_up_to}
use Rattle.std.proofs.Math.Seq.{take-append_seam, take-append-add}
use Rattle.std.proofs.Math.Utf8.{scalar, low_scalar}
use Rattle.std.proofs.lemmas.Bool.{and_parts}
use Rattle.std.proofs.lemmas.Bool.Decides.{nat_tests}
use Rattle.std.proofs.lemmas.List.{append_assoc, append_cancel_left, length-append, length-take-le, length-drop, take-append-drop, take-append-le, drop-append-le}
use Rattle.std.proofs.lemmas.Str.{IsUtf8-append, IsUtf8-drop, IsUtf8-from_is_utf8, IsCharBoundary-from_take, IsUtf8-encode, is_utf8-from_IsUtf8, chars-append, chars_from_encodes, encodes-append, encodes-chars, scalars-chars, length-encode}
use Rattle.ipdl_tree.specs.Trees.{Located, word, number, literal, group, most_open}
use Rattle.ipdl_tree.specs.Causes.{Cause, bad_byte}
use Rattle.ipdl_tree.specs.Reading.{Token, no_token, comment, open_name, open_number, open_literal, Group, Reading, nothing_read, add_to, after, refusal_of, unless, read_on, whole, finish, ended, read_source, ◌>>=◌}
use Rattle.ipdl_tree.specs.Refusals.{error_of, refusal, IsSpelled, CanGoOn, IsRefusedAt}
use Rattle.ipdl_tree.specs.Spelling.{EndsToken}
use Rattle.ipdl_tree.specs.Views.{forest}
use Rattle.ipdl_tree.proofs.Characters.{eqb-suc-zero}
use Rattle.ipdl_tree.proofs.Names.{chars-encode}
use Rattle.ipdl_tree.proofs.Passing.{run, at, run-step, all_scalars-append}
use Rattle.ipdl_tree.proofs.PassingTokens.{run-name, run-number, run-literal}
use Rattle.ipdl_tree.proofs.Sound.{IsSound, IsSoundState, IsSound-no_token, IsSound-after, read_source-shallow}
use Rattle.ipdl_tree.proofs.Sources.{IsUtf8-front, IsUtf8-from_read, allows-refusals, read_source-text, read_source-spelled, spelled-read_source, not_refused-spelled}

-- ---- whatever has been read goes on to a tree

-- reading the characters from the state on gives a tree
record Finishes (r : Reading) (offset : ℕ) (characters : List ℕ) : Type 0 where
  scalars : all_scalars characters ≡ true
  tree : Located
  runs : run refusal_of r offset characters ≡ Ok tree

-- a parenthesis closes each group
abbrev closings : List Group → List ℕ
closings [] = []
closings (g ∷ gs) = 41 ∷ closings gs

EndsToken-closings : (gs : List Group) → EndsToken (closings gs)
EndsToken-closings [] = tt
EndsToken-closings (g ∷ gs) = refl

closing : (g : Group) (gs : List Group) (o : ℕ) (cs : List ℕ) → Finishes (add_to (group g.start (forest g.parts)) gs None) (o + len_utf8 41) cs → Finishes (at no_token (g ∷ gs) None) o (41 ∷ cs)
closing g gs o cs h = record {
  scalars = rw (low_scalar 41 (omega arith)) h.scalars;
  tree = h.tree;
  runs = run-step refusal_of (at no_token (g ∷ gs) None) o 41 cs (ap (λ b. if b then Some bad_byte else None) (eqb-suc-zero (length gs))) ∙ h.runs;
}

closed : (u : Located) (gs : List Group) (o : ℕ) → Finishes (add_to u gs None) o (closings gs)
closed u [] o = record { scalars = refl; tree = u; runs = refl }
closed u (g ∷ gs) o =
    closing (record { start = g.start; parts = g.parts ++ u ∷ [] }) gs o (closings gs) (closed (group g.start (forest (g.parts ++ u ∷ []))) gs (o + len_utf8 41))

-- where no token is open
between_tokens : (gs : List Group) (k : Option Located) (o : ℕ) → IsSoundState no_token gs k → (cs : List ℕ) × Finishes (at no_token gs k) o cs
between_tokens [] None o h = (48 ∷ [], record { scalars = rw (low_scalar 48 (omega arith)) refl; tree = number o 0; runs = refl })
between_tokens (g ∷ gs) None o h = (41 ∷ closings gs, closing g gs o (closings gs) (closed (group g.start (forest g.parts)) gs (o + len_utf8 41)))
between_tokens [] (Some t) o h = ([], record { scalars = refl; tree = t; runs = refl })
between_tokens (g ∷ gs) (Some t) o h = absurd (let e = h.1 in let x : ⊥ = cc in x)

-- the token ends first
token_first : (r q : Reading) (o : ℕ) (cs : List ℕ) → run refusal_of r o cs ≡ run refusal_of q o cs → Finishes q o cs → Finishes r o cs
token_first r q o cs e h = record { scalars = h.scalars; tree = h.tree; runs = e ∙ h.runs }

goes_on-state : (token : Token) (gs : List Group) (k : Option Located) (o : ℕ) → IsSoundState token gs k → (cs : List ℕ) × Finishes (at token gs k) o cs
goes_on-state no_token gs k o h = between_tokens gs k o h
goes_on-state comment gs k o h =
    let later = between_tokens gs k (o + len_utf8 10) (IsSound-no_token comment gs k h) in (
      10 ∷ later.0,
      record {
        scalars = rw (low_scalar 10 (omega arith)) later.1.scalars;
        tree = later.1.tree;
        runs = run-step refusal_of (at comment gs k) o 10 later.0 refl ∙ later.1.runs;
      },
    )
goes_on-state (open_name start text) gs None o h =
    (closings gs, token_first _ _ o (closings gs) (run-name refusal_of most_open allows-refusals start text gs o (closings gs) (EndsToken-closings gs)) (closed (word start text) gs o))
goes_on-state (open_name start text) gs (Some t) o h = absurd h.0
goes_on-state (open_number start value) gs None o h =
    (closings gs, token_first _ _ o (closings gs) (run-number refusal_of most_open allows-refusals start value gs o (closings gs) (EndsToken-closings gs)) (closed (number start value) gs o))
goes_on-state (open_number start value) gs (Some t) o h = absurd h.0
goes_on-state (open_literal start bits) gs None o h =
    (closings gs, token_first _ _ o (closings gs) (run-literal refusal_of most_open allows-refusals start bits gs o (closings gs) (EndsToken-closings gs)) (closed (literal start bits) gs o))
goes_on-state (open_literal start bits) gs (Some t) o h = absurd h.0

-- ---- where reading stops

-- the character that comes next is refused, if there is one
abbrev IsStop : Reading → List ℕ → Type 0
IsStop q [] = Unit {0}
IsStop q (c ∷ cs) = refusal_of q c ≡ None → ⊥

-- reading stops at an offset: it went through the characters before it, and no further
record Stops (r : Reading) (o : ℕ) (cs : List ℕ) (n : ℕ) : Type 0 where
  before : List ℕ
  rest : List ℕ
  split : cs ≡ before ++ rest
  state : Reading
  sound : IsSound state
  past : n ≡ o + length (encode_utf8_all before)
  runs : (ds : List ℕ) → run refusal_of r o (before ++ ds) ≡ run refusal_of state n ds
  stop : IsStop state rest

abbrev offset_of_error : {A : Type 0} → Result A (ℕ × Cause) → ℕ
offset_of_error (Ok x) = 0
offset_of_error (Err e) = e.0

-- it stops before the characters
stops_here : (r : Reading) (o : ℕ) (cs : List ℕ) (n : ℕ) → IsSound r → o ≡ n → IsStop r cs → Stops r o cs n
stops_here r o cs n h same stop = record {
  before = [];
  rest = cs;
  split = refl;
  state = r;
  sound = h;
  past = omega (arith, same);
  runs = λ ds. ap (λ m. run refusal_of r m ds) same;
  stop = stop;
}

stops : (cs : List ℕ) (r : Reading) (o : ℕ) (end : Reading → ℕ → Result Located (ℕ × Cause)) (n : ℕ) (cause : Cause) → ((q : Reading) (m : ℕ) → end q m ≡ Err (n, cause) → m ≡ n) → IsSound r → read_on refusal_of r o cs end ≡ Err (n, cause) → Stops r o cs n
stops [] r o end n cause ends h e = stops_here r o [] n h (ends r o e) tt
stops (c ∷ cs) r o end n cause ends h e =
    go (λ none given. stops cs (after r o c) (o + len_utf8 c) end n cause ends (IsSound-after r o c none h) given) (refusal_of r c) refl e
  where
    go : (refusal_of r c ≡ None → read_on refusal_of (after r o c) (o + len_utf8 c) cs end ≡ Err (n, cause) → Stops (after r o c) (o + len_utf8 c) cs n) → (x : Option Cause) → refusal_of r c ≡ x → (unless x o (after r o c) >>= λ next. read_on refusal_of next (o + len_utf8 c) cs end) ≡ Err (n, cause) → Stops r o (c ∷ cs) n
    go later (Some why) some given = stops_here r o (c ∷ cs) n h (ap offset_of_error given) (λ none. let x : ⊥ = cc in x)
    go later None none given =
        let s = later none given in
        record {
          before = c ∷ s.before;
          rest = s.rest;
          split = ap (λ x. c ∷ x) s.split;
          state = s.state;
          sound = s.sound;
          past = omega (arith, s.past, length-append (encode_utf8 c) (encode_utf8_all s.before), length-encode c);
          runs = λ ds. run-step refusal_of r o c (s.before ++ ds) none ∙ s.runs ds;
          stop = s.stop;
        }

-- the end of a source is refused at its own offset
whole-offset : (gs : List Group) (k : Option Located) (m n : ℕ) (cause : Cause) → whole gs k m ≡ Err (n, cause) → m ≡ n
whole-offset (g ∷ gs) k m n cause e = ap offset_of_error e
whole-offset [] None m n cause e = ap offset_of_error e
whole-offset [] (Some t) m n cause e = absurd (let x : ⊥ = cc in x)

end-offset : (b : Bool) (q : Reading) (m n : ℕ) (cause : Cause) → (if b then finish q m else Err (m, bad_byte)) ≡ Err (n, cause) → m ≡ n
end-offset true q m n cause e = whole-offset (ended q).groups (ended q).complete m n cause e
end-offset false q m n cause e = ap offset_of_error e

source-stops : (source : List ℕ) (n : ℕ) (cause : Cause) → read_source source ≡ Err (n, cause) → Stops nothing_read 0 (chars (take (utf8_valid_len source) source)) n
unfolding read_source
source-stops source n cause e =
    stops (chars (take (utf8_valid_len source) source)) nothing_read 0 (λ r offset. if utf8_valid_len source == length source then finish r offset else Err (offset, bad_byte)) n cause
    (λ q m given. end-offset (utf8_valid_len source == length source) q m n cause given) tt e

-- ---- the bytes before a refusal

less_or_same : (a b : ℕ) → a ≤ suc b → (a ≤ b) ⊎ (a ≡ suc b)
less_or_same a b k = go (leb a b) refl
  where
    go : (x : Bool) → leb a b ≡ x → (a ≤ b) ⊎ (a ≡ suc b)
    go true e = inl (grind (arith, nat_tests))
    go false e = let more : b < a = grind (arith, nat_tests) in inr (omega arith)

-- a front that is text is no longer than the longest one
longest : (bs : List ℕ) (m n : ℕ) → IsUtf8 (take m bs) → m ≤ n → m ≤ valid_len_up_to bs n
longest bs m zero u h = h
longest bs m (suc n) u h = go (λ less. longest bs m n u less) (is_utf8 (take (suc n) bs)) refl
  where
    other : is_utf8 (take (suc n) bs) ≡ false → m ≡ suc n → ⊥
    other e same =
        let text : is_utf8 (take m bs) ≡ true = is_utf8-from_IsUtf8 (take m bs) u in
        let again : is_utf8 (take m bs) ≡ false = ap (λ k. is_utf8 (take k bs)) same ∙ e in
        cc

    go : (m ≤ n → m ≤ valid_len_up_to bs n) → (b : Bool) → is_utf8 (take (suc n) bs) ≡ b → m ≤ (if b then suc n else valid_len_up_to bs n)
    go later true e = h
    go later false e = ⊎_elim later (λ same. absurd (other e same)) (less_or_same m n h)

longest-valid : (bs : List ℕ) (m : ℕ) → IsUtf8 (take m bs) → m ≤ length bs → m ≤ utf8_valid_len bs
unfolding utf8_valid_len
longest-valid bs m u h = longest bs m (length bs) u h

-- what is known of a source that stops at an offset
record Cut (source : List ℕ) (n : ℕ) : Type 0 where
  before : List ℕ
  rest : List ℕ
  state : Reading
  sound : IsSound state
  scalars : all_scalars before ≡ true
  runs : (ds : List ℕ) → run refusal_of nothing_read 0 (before ++ ds) ≡ run refusal_of state n ds
  stop : IsStop state rest
  front : take n source ≡ encode_utf8_all before
  characters : chars (take (utf8_valid_len source) source) ≡ before ++ rest
  within : n ≤ length source

all_scalars-front : (a b : List ℕ) → all_scalars (a ++ b) ≡ true → all_scalars a ≡ true
all_scalars-front [] b h = refl
all_scalars-front (c ∷ a) b h = let p = and_parts (scalar c) (all_scalars (a ++ b)) h in rw (p.0, all_scalars-front a b p.1) refl

source-cut : (source : List ℕ) (n : ℕ) (cause : Cause) → read_source source ≡ Err (n, cause) → Cut source n
source-cut source n cause e =
    let valid = utf8_valid_len source in
    let text = take valid source in
    let s = source-stops source n cause e in
    let u = IsUtf8-front source in
    let front = encode_utf8_all s.before in
    let tail = encode_utf8_all s.rest ++ drop valid source in
    let P : List ℕ → Type 0 = λ cs. all_scalars cs ≡ true in
    let spelled : text ≡ front ++ encode_utf8_all s.rest = sym (encodes-chars text u) ∙ ap encode_utf8_all s.split ∙ encodes-append s.before s.rest in
    let cut : source ≡ front ++ tail = sym (take-append-drop valid source) ∙ ap (λ x. x ++ drop valid source) spelled ∙ append_assoc front (encode_utf8_all s.rest) (drop valid source) in
    let long : n ≡ length front = omega (arith, s.past) in
    record {
      before = s.before;
      rest = s.rest;
      state = s.state;
      sound = s.sound;
      scalars = all_scalars-front s.before s.rest (subst P s.split (scalars-chars text u));
      runs = s.runs;
      stop = s.stop;
      front = ap (λ m. take m source) long ∙ ap (take (length front)) cut ∙ take-append_seam front tail;
      characters = s.split;
      within = omega (arith, long, ap length cut, length-append front tail);
    }

-- they go on to a tree
cut-goes_on : (source : List ℕ) (n : ℕ) → Cut source n → CanGoOn (take n source)
cut-goes_on source n cut =
    let r = cut.state in
    let later = goes_on-state r.token r.groups r.complete n cut.sound in
    let more = encode_utf8_all later.0 in
    let all = encode_utf8_all (cut.before ++ later.0) in
    let u : IsUtf8 all = (cut.before ++ later.0, (all_scalars-append cut.before later.0 cut.scalars later.1.scalars, refl)) in
    let read : read_source all ≡ Ok later.1.tree =
    read_source-text all u ∙ ap (run refusal_of nothing_read 0) (sym (chars_from_encodes (cut.before ++ later.0) all u refl)) ∙ cut.runs later.0 ∙ later.1.runs in
    let same : all ≡ take n source ++ more = encodes-append cut.before later.0 ∙ ap (λ x. x ++ more) (sym cut.front) in
    let P : List ℕ → Type 0 = IsSpelled in
    (more, subst P same (later.1.tree, spelled-read_source all later.1.tree read, read_source-shallow all later.1.tree read))

-- and with the next character they do not
not_refused : (q : Reading) (n c : ℕ) (cs : List ℕ) (t : Located) → run refusal_of q n (c ∷ cs) ≡ Ok t → refusal_of q c ≡ None
not_refused q n c cs t e = go (refusal_of q c) refl e
  where
    go : (x : Option Cause) → refusal_of q c ≡ x → (unless x n (after q n c) >>= λ next. read_on refusal_of next (n + len_utf8 c) cs finish) ≡ Ok t → refusal_of q c ≡ None
    go None none given = none
    go (Some cause) some given = absurd (let x : ⊥ = cc in x)

cut-stops : (source : List ℕ) (n : ℕ) → Cut source n → (c : ℕ) (rest : List ℕ) → IsScalar c → drop n source ≡ encode_utf8 c ++ rest → CanGoOn (take n source ++ encode_utf8 c) → ⊥
cut-stops source n cut c rest scalar here (more, (t, spells, shallow)) =
    let valid = utf8_valid_len source in
    let text = take valid source in
    let front = take n source ++ encode_utf8 c in
    let all = front ++ more in
    let P : List ℕ → Type 0 = IsUtf8 in
    let u : IsUtf8 (take n source) = subst P (sym cut.front) (cut.before, (cut.scalars, refl)) in
    let v : IsUtf8 front = IsUtf8-append (take n source) (encode_utf8 c) u (IsUtf8-encode c scalar) in
    let through : chars front ≡ cut.before ++ c ∷ [] =
    chars-append (take n source) (encode_utf8 c) u ∙ ap (λ x. x ++ chars (encode_utf8 c)) (sym (chars_from_encodes cut.before (take n source) u (sym cut.front))) ∙ ap (λ x. cut.before ++ x) (chars-encode c scalar) in
    let known : (ds : List ℕ) → chars (front ++ ds) ≡ cut.before ++ c ∷ chars ds =
    λ ds. chars-append front ds v ∙ ap (λ x. x ++ chars ds) through ∙ append_assoc cut.before (c ∷ []) (chars ds) in
    let read = read_source-spelled all t spells shallow in
    let ran : run refusal_of cut.state n (c ∷ chars more) ≡ Ok t =
    sym (cut.runs (c ∷ chars more)) ∙ ap (run refusal_of nothing_read 0) (sym (known more)) ∙ sym (read_source-text all (IsUtf8-from_read all t read)) ∙ read in
    let begins : source ≡ front ++ rest = sym (take-append-drop n source) ∙ ap (λ x. take n source ++ x) here ∙ sym (append_assoc (take n source) (encode_utf8 c) rest) in
    let cuts : take (length front) source ≡ front = ap (take (length front)) begins ∙ take-append_seam front rest in
    let within : length front ≤ valid = longest-valid source (length front) (subst P (sym cuts) v) (omega (arith, ap length begins, length-append front rest)) in
    let tail = take (valid - length front) rest in
    let long : valid ≡ length front + (valid - length front) = omega (arith, within) in
    let goes : text ≡ front ++ tail = ap (λ m. take m source) long ∙ ap (take (length front + (valid - length front))) begins ∙ take-append-add front rest (valid - length front) in
    let next : cut.rest ≡ c ∷ chars tail = append_cancel_left cut.before cut.rest (c ∷ chars tail) (sym cut.characters ∙ ap chars goes ∙ known tail) in
    let Q : List ℕ → Type 0 = IsStop cut.state in
    subst Q next cut.stop (not_refused cut.state n c (chars more) t ran)

-- ---- the law

-- a refusal stands at the first byte at which no source that spells a tree goes on
pub refused_where_stuck : (source : List ℕ) (n : ℕ) (cause : Cause) → refusal source ≡ Some (n, cause) → IsRefusedAt source n
unfolding refusal
refused_where_stuck source n cause e =
    let cut = source-cut source n cause (go (read_source source) e) in
    let P : List ℕ → Type 0 = IsUtf8 in
    record {
      within = cut.within;
      text = is_utf8-from_IsUtf8 (take n source) (subst P (sym cut.front) (cut.before, (cut.scalars, refl)));
      front = cut-goes_on source n cut;
      next = cut-stops source n cut;
      whole = λ (t, spells, shallow). (let none : error_of (read_source source) ≡ None = not_refused-spelled source t spells shallow in let x : ⊥ = cc in x);
    }
  where
    go : (x : Result Located (ℕ × Cause)) → error_of x ≡ Some (n, cause) → x ≡ Err (n, cause)
    go (Ok t) h = cc
    go (Err y) h = ap Err (inside h)
      where
        inside : Some y ≡ Some (n, cause) → y ≡ (n, cause)
        inside k = cc

-- ---- the offset is the only one

-- a text that is longer than another one in front of it has a next character
record IsNextIn (rest : List ℕ) : Type 0 where
  character : ℕ
  later : List ℕ
  scalar : IsScalar character
  here : rest ≡ encode_utf8 character ++ later

next_in : (rest : List ℕ) → IsUtf8 rest → 0 < length rest → IsNextIn rest
next_in rest ([], (scalars, e)) some = absurd (omega (arith, some, ap length e))
next_in rest (c ∷ cs, (scalars, e)) some = record { character = c; later = encode_utf8_all cs; scalar = (and_parts (scalar c) (all_scalars cs) scalars).0; here = sym e }

-- the character of another refusal's front that stands there goes on
goes_on_there : (source : List ℕ) (n m : ℕ) → n ≤ length (take m source) → take n source ≡ take n (take m source) → IsNextIn (drop n (take m source)) → IsRefusedAt source n → IsRefusedAt source m → ⊥
goes_on_there source n m within same next here there =
    let front = take m source in
    let behind = drop m source in
    let rest : drop n source ≡ encode_utf8 next.character ++ (next.later ++ behind) =
    ap (drop n) (sym (take-append-drop m source)) ∙ drop-append-le n front behind within ∙ ap (λ x. x ++ behind) next.here ∙ append_assoc (encode_utf8 next.character) next.later behind in
    let split : front ≡ (take n source ++ encode_utf8 next.character) ++ next.later =
    sym (take-append-drop n front) ∙ ap₂ (λ x y. x ++ y) (sym same) next.here ∙ sym (append_assoc (take n source) (encode_utf8 next.character) next.later) in
    let more = there.front.0 in
    let P : List ℕ → Type 0 = IsSpelled in
    here.next next.character (next.later ++ behind) next.scalar rest
    (next.later ++ more, subst P (ap (λ x. x ++ more) split ∙ append_assoc (take n source ++ encode_utf8 next.character) next.later more) there.front.1)

earlier : (source : List ℕ) (n m : ℕ) → n < m → IsRefusedAt source n → IsRefusedAt source m → ⊥
earlier source n m less here there =
    let front = take m source in
    let long : length front ≡ m = length-take-le m source there.within in
    let within : n ≤ length front = omega (arith, long, less) in
    let same : take n source ≡ take n front = ap (take n) (sym (take-append-drop m source)) ∙ take-append-le n front (drop m source) within in
    let P : List ℕ → Type 0 = IsUtf8 in
    let v = IsUtf8-from_is_utf8 front there.text in
    let boundary = IsCharBoundary-from_take front n v within (subst P same (IsUtf8-from_is_utf8 (take n source) here.text)) in
    let next = next_in (drop n front) (IsUtf8-drop front n v boundary) (omega (arith, length-drop n front, long, less)) in
    goes_on_there source n m within same next here there

-- a source is refused at one offset
pub one_offset : (source : List ℕ) (n m : ℕ) → IsRefusedAt source n → IsRefusedAt source m → n ≡ m
one_offset source n m here there = go (ltb n m) (ltb m n) refl refl
  where
    go : (a b : Bool) → ltb n m ≡ a → ltb m n ≡ b → n ≡ m
    go true b e f = absurd (let less : n < m = grind (arith, nat_tests) in earlier source n m less here there)
    go false true e f = absurd (let less : m < n = grind (arith, nat_tests) in earlier source m n less there here)
    go false false e f = grind (arith, nat_tests)
