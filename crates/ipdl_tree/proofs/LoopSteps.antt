-- The loop over the characters of a text: one turn, a refusal, and the end.
use Rattle.std.proofs.Common.{◌≡◌, ℕ, zero, suc, ◌+◌, ◌<◌, ◌≤◌, true, List, [], ◌∷◌, ◌++◌, length, get_or, take, drop, Result, Ok, sym, ap, ◌∙◌, subst, slice_range, arith}
use Rattle.std.specs.Char.{len_utf8, encode_utf8, IsScalar}
use Rattle.std.specs.Str.{IsUtf8, IsCharBoundary, chars, encode_utf8_all, all_scalars}
use Rattle.std.proofs.Math.Seq.{take-length}
use Rattle.std.proofs.lemmas.List.{at_drop_all, length-take-le, length-drop}
use Rattle.std.proofs.lemmas.Str.{scalars-chars, drop_past_char, IsCharBoundary-from_drop}
use Rattle.std.proofs.lemmas.Bool.{and_parts}
use Rattle.ipdl_tree.specs.declared.fault.TreeFault.{TreeFault}
use Rattle.ipdl_tree.specs.declared.reader.Reader.{Reader}
use Rattle.ipdl_tree.specs.Causes.{Cause}
use Rattle.ipdl_tree.specs.Reading.{Reading, IsNameToken, refusal_of, after, step, read_on}
use Rattle.ipdl_tree.specs.Faults.{Fails}
use Rattle.ipdl_tree.specs.ReaderViews.{reading, IsTokenAfter}
use Rattle.ipdl_tree.proofs.ReaderSteps.{IsTokenAfter-from_view, IsNameToken-from_after}
use Rattle.ipdl_tree.proofs.TextSteps.{End, next_character, take-past_char, within-past_char, read_on-step, Fails-step, unless-Ok}
use Rattle.ipdl_tree.proofs.TokenNames.{IsScalar-get_or, IsNameToken-after}

-- where the loop stands
pub record IsAt (text : List ℕ) (at n : ℕ) : Type 0 where
  pub within : at ≤ length text
  pub rest : drop at text ≡ encode_utf8_all (drop n (chars text))

-- the next character
pub record IsNext (text : List ℕ) (n c : ℕ) : Type 0 where
  pub below : n < length (chars text)
  pub here : c ≡ get_or (chars text) n c

-- the loop goes on past the next character
pub IsAt-next : (text : List ℕ) (at n c k m : ℕ) → IsAt text at n → IsNext text n c → k ≡ at + len_utf8 c → m ≡ n + 1 → IsAt text k m
IsAt-next text at n c k m here next ek em =
    let e = next_character text (chars text) at n c here.rest next.below next.here in
    let P : ℕ → Type 0 = λ x. IsAt text x m in
    let Q : ℕ → Type 0 = λ x. IsAt text (at + len_utf8 c) x in
    subst P (sym ek) (subst Q (sym em) (record {
      within = within-past_char text _ at c here.within e;
      rest = drop_past_char text _ at c e;
    }))

-- the text before the place
pub slice_front : (text : List ℕ) (at : ℕ) → slice_range text 0 at ≡ take at text
slice_front text at = grind arith

all_scalars-drop : (cs : List ℕ) (n : ℕ) → all_scalars cs ≡ true → all_scalars (drop n cs) ≡ true
all_scalars-drop cs zero all = all
all_scalars-drop [] (suc n) all = all
all_scalars-drop (c ∷ cs) (suc n) all = all_scalars-drop cs n (and_parts _ _ all).1

-- the text may be cut where the loop stands
pub IsAt-boundary : (text : List ℕ) (at n : ℕ) → IsUtf8 text → IsAt text at n → IsCharBoundary text at
IsAt-boundary text at n u here =
    IsCharBoundary-from_drop text at here.within (drop n (chars text), (all_scalars-drop (chars text) n (scalars-chars text u), sym here.rest))

front_length : (text : List ℕ) (at n : ℕ) → IsAt text at n → length (take at text) ≡ at
front_length text at n here = length-take-le at text here.within

-- the step that was taken, at the place of the loop
pub taken : (text front : List ℕ) (at n c k : ℕ) (old new : Reader) → IsAt text at n → IsNext text n c → k ≡ at + len_utf8 c → front ≡ take at text → step refusal_of (reading front old) (length front) c ≡ Ok (reading (front ++ encode_utf8 c) new) → step refusal_of (reading (take at text) old) at c ≡ Ok (reading (take k text) new)
taken text front at n c k old new here next ek ef given =
    let e = next_character text (chars text) at n c here.rest next.below next.here in
    let P : List ℕ → Type 0 = λ x. step refusal_of (reading x old) (length x) c ≡ Ok (reading (x ++ encode_utf8 c) new) in
    let Q : ℕ → Type 0 = λ x. step refusal_of (reading (take at text) old) x c ≡ Ok (reading (take at text ++ encode_utf8 c) new) in
    let seen : take k text ≡ take at text ++ encode_utf8 c = ap (λ x. take x text) ek ∙ take-past_char text _ at c e in
    subst Q (front_length text at n here) (subst P ef given) ∙ ap (λ x. Ok (reading x new)) (sym seen)

-- a refusal at the place of the loop
pub refused : (text front : List ℕ) (at n c : ℕ) (old : Reader) (fault : TreeFault) → IsAt text at n → front ≡ take at text → Fails fault (step refusal_of (reading front old) (length front) c) → Fails fault (step refusal_of (reading (take at text) old) at c)
refused text front at n c old fault here ef given =
    let P : List ℕ → Type 0 = λ x. Fails fault (step refusal_of (reading x old) (length x) c) in
    let Q : ℕ → Type 0 = λ x. Fails fault (step refusal_of (reading (take at text) old) x c) in
    subst Q (front_length text at n here) (subst P ef given)

-- the token stays one
pub token_stays : (text : List ℕ) (at n c k : ℕ) (old new : Reader) → IsUtf8 text → IsNext text n c → IsTokenAfter (take at text) old.token → step refusal_of (reading (take at text) old) at c ≡ Ok (reading (take k text) new) → IsTokenAfter (take k text) new.token
token_stays text at n c k old new u next token given =
    let s : IsScalar c = (let P : ℕ → Type 0 = IsScalar in subst P (sym next.here) (IsScalar-get_or (chars text) n c (scalars-chars text u) next.below)) in
    let r = reading (take at text) old in
    let parts = unless-Ok (refusal_of r c) at (after r at c) (reading (take k text) new) given in
    let names = IsNameToken-after r at c s parts.0 (IsNameToken-from_after (take at text) old.token token) in
    let P : Reading → Type 0 = λ q. IsNameToken q.token in
    IsTokenAfter-from_view (take k text) new.token (subst P parts.1 names)

-- what is left is read from the new state
pub reads_on : (text : List ℕ) (at n c k m : ℕ) (old new : Reader) (at_end : End) → IsNext text n c → k ≡ at + len_utf8 c → m ≡ n + 1 → step refusal_of (reading (take at text) old) at c ≡ Ok (reading (take k text) new) → read_on refusal_of (reading (take k text) new) k (drop m (chars text)) at_end ≡ read_on refusal_of (reading (take at text) old) at (drop n (chars text)) at_end
reads_on text at n c k m old new at_end next ek em given =
    let r = reading (take at text) old in
    let q = reading (take k text) new in
    ap (λ x. read_on refusal_of q x (drop m (chars text)) at_end) ek
    ∙ ap (λ x. read_on refusal_of q (at + len_utf8 c) (drop x (chars text)) at_end) em
    ∙ sym (read_on-step r q at (chars text) n c at_end next.below next.here given)

-- a refusal of the next character is one of the whole text
pub refuses : (text : List ℕ) (at n c : ℕ) (old : Reader) (fault : TreeFault) (at_end : End) (all : Result Reading (ℕ × Cause)) → IsNext text n c → read_on refusal_of (reading (take at text) old) at (drop n (chars text)) at_end ≡ all → Fails fault (step refusal_of (reading (take at text) old) at c) → Fails fault all
refuses text at n c old fault at_end all next same given =
    let P : Result Reading (ℕ × Cause) → Type 0 = Fails fault in
    subst P same (Fails-step fault (reading (take at text) old) at (chars text) n c at_end next.below next.here given)

-- all characters were taken
pub front_whole : (text : List ℕ) (at n : ℕ) → IsAt text at n → n ≡ length (chars text) → take at text ≡ text
front_whole text at n here e =
    let none : drop at text ≡ [] = here.rest ∙ at_drop_all encode_utf8_all (chars text) n (omega (arith, e)) in
    let all : at ≡ length text = omega (arith, here.within, length-drop at text, ap length none) in
    ap (λ x. take x text) all ∙ take-length text

-- what was read is the whole
pub read_whole : (text : List ℕ) (at n : ℕ) (old : Reader) (all : Result Reading (ℕ × Cause)) → IsAt text at n → n ≡ length (chars text) → read_on refusal_of (reading (take at text) old) at (drop n (chars text)) (λ r _. Ok r) ≡ all → all ≡ Ok (reading text old)
read_whole text at n old all here e same =
    sym same
    ∙ at_drop_all (λ xs. read_on {A = Reading} refusal_of (reading (take at text) old) at xs (λ r _. Ok r)) (chars text) n (omega (arith, e))
    ∙ ap (λ x. Ok (reading x old)) (front_whole text at n here e)
