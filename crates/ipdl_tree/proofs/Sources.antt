-- Whole sources: reading gives exactly the tree that a source spells, and else refuses it.
use Rattle.std.proofs.Common.{◌≡◌, ℕ, zero, suc, ◌+◌, ◌<◌, ◌≤◌, Bool, true, false, if◌then◌else◌, eqb, ltb, List, [], ◌∷◌, length, take, Option, Some, None, Result, Ok, Err, refl, sym, ap, ◌∙◌, subst, arith}
use Rattle.std.specs.Prelude.{◌==◌}
use Rattle.std.specs.Char.{len_utf8}
use Rattle.std.specs.Str.{IsUtf8, is_utf8, chars, encode_utf8_all}
use Rattle.std.specs.Str.Lossy.{utf8_valid_len, valid_len_up_to}
use Rattle.std.proofs.Math.Seq.{take-length}
use Rattle.std.proofs.lemmas.Bool.Decides.{nat_tests}
use Rattle.std.proofs.lemmas.List.{append_assoc}
use Rattle.std.proofs.lemmas.Str.{IsUtf8-nil, IsUtf8-from_is_utf8, utf8_valid_len-IsUtf8, encodes-chars, scalars-chars, chars_from_encodes}
use Rattle.ipdl_tree.specs.Trees.{Located, word, number, literal, depth_of, most_open, IsShallow}
use Rattle.ipdl_tree.specs.Causes.{Cause, bad_byte, deep}
use Rattle.ipdl_tree.specs.Characters.{beginning_of}
use Rattle.ipdl_tree.specs.Reading.{continues, Token, no_token, comment, open_name, open_number, open_literal, tree_of, Group, Reading, nothing_read, add_to, refusal_of, refusal_of_any_beginning, step, read_on, finish, read_source, ◌>>=◌}
use Rattle.ipdl_tree.specs.Refusals.{error_of, refusal, IsSpelled}
use Rattle.ipdl_tree.specs.Spelling.{ends_token, SpellsSource}
use Rattle.ipdl_tree.proofs.Characters.{eqb-same}
use Rattle.ipdl_tree.proofs.Sound.{read_source-shallow}
use Rattle.ipdl_tree.proofs.Rest.{FollowsReading}
use Rattle.ipdl_tree.proofs.Soundness.{read_on-follows}
use Rattle.ipdl_tree.proofs.Passing.{Refuse, Allows, run, at}
use Rattle.ipdl_tree.proofs.PassingTrees.{run-spelled}

-- ---- the text at the front of a source

IsUtf8-valid_len_up_to : (bs : List ℕ) (n : ℕ) → IsUtf8 (take (valid_len_up_to bs n) bs)
IsUtf8-valid_len_up_to bs zero = IsUtf8-nil
IsUtf8-valid_len_up_to bs (suc n) = go (is_utf8 (take (suc n) bs)) refl (IsUtf8-valid_len_up_to bs n)
  where
    go : (b : Bool) → is_utf8 (take (suc n) bs) ≡ b → IsUtf8 (take (valid_len_up_to bs n) bs) → IsUtf8 (take (if b then suc n else valid_len_up_to bs n) bs)
    go true e h = IsUtf8-from_is_utf8 (take (suc n) bs) e
    go false e h = h

pub IsUtf8-front : (bs : List ℕ) → IsUtf8 (take (utf8_valid_len bs) bs)
unfolding utf8_valid_len
IsUtf8-front bs = IsUtf8-valid_len_up_to bs (length bs)

eqb-self : (n : ℕ) → eqb n n ≡ true
eqb-self n = grind (arith, nat_tests)

abbrev reading_of : List ℕ → ℕ → Bool → Result Located (ℕ × Cause)
reading_of source n b = read_on refusal_of nothing_read 0 (chars (take n source)) (λ r offset. if b then finish r offset else Err (offset, bad_byte))

-- a source that is text is read to its end
pub read_source-text : (source : List ℕ) → IsUtf8 source → read_source source ≡ run refusal_of nothing_read 0 (chars source)
unfolding read_source
read_source-text source u =
    ap (λ n. reading_of source n (eqb n (length source))) (utf8_valid_len-IsUtf8 source u)
    ∙ ap (reading_of source (length source)) (eqb-self (length source))
    ∙ ap (λ s. run refusal_of nothing_read 0 (chars s)) (take-length source)

broken : (cs : List ℕ) (r : Reading) (o : ℕ) (t : Located) → read_on {A = Located} refusal_of r o cs (λ _ offset. Err (offset, bad_byte)) ≡ Ok t → ⊥
broken [] r o t e = cc
broken (c ∷ cs) r o t e = go (λ q n given. broken cs q n t given) (step refusal_of r o c) e
  where
    go : ((q : Reading) (n : ℕ) → read_on {A = Located} refusal_of q n cs (λ _ offset. Err (offset, bad_byte)) ≡ Ok t → ⊥) → (x : Result Reading (ℕ × Cause)) → (x >>= λ next. read_on {A = Located} refusal_of next (o + len_utf8 c) cs (λ _ offset. Err (offset, bad_byte))) ≡ Ok t → ⊥
    go later (Ok q) given = later q (o + len_utf8 c) given
    go later (Err x) given = cc

-- a source that is read is text
pub IsUtf8-from_read : (source : List ℕ) (t : Located) → read_source source ≡ Ok t → IsUtf8 source
unfolding read_source
IsUtf8-from_read source t e = go (utf8_valid_len source == length source) refl
  where
    go : (b : Bool) → eqb (utf8_valid_len source) (length source) ≡ b → IsUtf8 source
    go true same =
        let P : List ℕ → Type 0 = IsUtf8 in
        subst P (ap (λ n. take n source) (eqb-same (utf8_valid_len source) (length source) same) ∙ take-length source) (IsUtf8-front source)
    go false other =
        absurd (broken (chars (take (utf8_valid_len source) source)) nothing_read 0 t (sym (ap (reading_of source (utf8_valid_len source)) other) ∙ e))

-- ---- what is read is spelled

-- a tree that is read is spelled by the source
pub spelled-read_source : (source : List ℕ) (t : Located) → read_source source ≡ Ok t → SpellsSource t source
spelled-read_source source t e =
    let u = IsUtf8-from_read source t e in
    let given = sym (read_source-text source u) ∙ e in
    let follows = read_on-follows (chars source) nothing_read 0 t (scalars-chars source u) tt tt given in
    whole follows (encodes-chars source u)
  where
    whole : FollowsReading nothing_read t 0 (encode_utf8_all (chars source)) → encode_utf8_all (chars source) ≡ source → SpellsSource t source
    whole (gap, first, rest, is_gap, spells, place, apart, last, split) same =
        (gap, first, rest, is_gap, spells, place ∙ omega arith, apart, last, sym same ∙ split ∙ sym (append_assoc gap first rest))

-- ---- what is spelled is read

-- the token does not go on, and it ends
ends_there : (goes ends : Bool) (within later : Option Cause) → goes ≡ false → ends ≡ true → (if goes then within else (if ends then later else Some bad_byte)) ≡ later
ends_there goes ends within later e f =
    ap (λ b. if b then within else (if ends then later else Some bad_byte)) e ∙ ap (λ b. if b then later else Some bad_byte) f

pub allows-refusals : Allows refusal_of most_open
allows-refusals = record {
  others = λ r c none. none;
  opening = λ gs room. ap (λ b. if b then None else Some deep) (below (length gs) room);
  ending = ending;
}
  where
    below : (n : ℕ) → n < most_open → ltb n most_open ≡ true
    below n h = grind (arith, nat_tests)

    refusal-add_to : (u : Located) (gs : List Group) (c : ℕ) → refusal_of (add_to u gs None) c ≡ refusal_of_any_beginning (add_to u gs None) (beginning_of c)
    refusal-add_to u [] c = refl
    refusal-add_to u (g ∷ gs) c = refl

    ending : (token : Token) (u : Located) (gs : List Group) (c : ℕ) → tree_of token ≡ Some u → continues token c ≡ false → ends_token c ≡ true → refusal_of (at token gs None) c ≡ refusal_of (add_to u gs None) c
    ending no_token u gs c e goes ends = absurd (let x : ⊥ = cc in x)
    ending comment u gs c e goes ends = absurd (let x : ⊥ = cc in x)
    ending (open_name start text) u gs c e goes ends =
        let same : word start text ≡ u = cc in
        ends_there _ _ _ _ goes ends
        ∙ ap (λ v. refusal_of_any_beginning (add_to v gs None) (beginning_of c)) same
        ∙ sym (refusal-add_to u gs c)
    ending (open_number start value) u gs c e goes ends =
        let same : number start value ≡ u = cc in
        ends_there _ _ _ _ goes ends
        ∙ ap (λ v. refusal_of_any_beginning (add_to v gs None) (beginning_of c)) same
        ∙ sym (refusal-add_to u gs c)
    ending (open_literal start bits) u gs c e goes ends =
        let same : literal start bits ≡ u = cc in
        ends_there _ _ _ _ goes ends
        ∙ ap (λ v. refusal_of_any_beginning (add_to v gs None) (beginning_of c)) same
        ∙ sym (refusal-add_to u gs c)

abbrev refuse_nothing : Refuse
refuse_nothing r c = None

allows-anything : (most : ℕ) → Allows refuse_nothing most
allows-anything most = record {
  others = λ r c none. refl;
  opening = λ gs room. refl;
  ending = λ token u gs c e goes ends. refl;
}

run-source : (refuse : Refuse) (most : ℕ) → Allows refuse most → (t : Located) (source : List ℕ) → SpellsSource t source → depth_of t ≤ most → IsUtf8 source × (run refuse nothing_read 0 (chars source) ≡ Ok t)
run-source refuse most allows t source spells depth =
    let p = run-spelled refuse most allows t source spells depth in
    let u : IsUtf8 source = (p.0, (p.1, p.2)) in
    (u, ap (run refuse nothing_read 0) (sym (chars_from_encodes p.0 source u p.2)) ∙ p.3)

-- a tree that is spelled is read
pub read_source-spelled : (source : List ℕ) (t : Located) → SpellsSource t source → IsShallow t → read_source source ≡ Ok t
read_source-spelled source t spells depth =
    let p = run-source refusal_of most_open allows-refusals t source spells depth in
    read_source-text source p.0 ∙ p.1

-- a source spells one tree
pub one_tree : (t u : Located) (source : List ℕ) → SpellsSource t source → SpellsSource u source → t ≡ u
one_tree t u source spells_t spells_u =
    let allows = allows-anything (depth_of t + depth_of u) in
    let p = run-source refuse_nothing (depth_of t + depth_of u) allows t source spells_t (omega arith) in
    let q = run-source refuse_nothing (depth_of t + depth_of u) allows u source spells_u (omega arith) in
    let same : Ok t ≡ run refuse_nothing nothing_read 0 (chars source) = sym p.1 in
    let other : Ok u ≡ run refuse_nothing nothing_read 0 (chars source) = sym q.1 in
    cc

-- ---- refusals

-- the refusal of a source is the error of reading it
pub refusal-read_source : (source : List ℕ) → refusal source ≡ error_of (read_source source)
unfolding refusal
refusal-read_source source = refl

-- a source that is not refused spells a tree
pub spelled-not_refused : (source : List ℕ) → refusal source ≡ None → IsSpelled source
spelled-not_refused source none = go (read_source source) refl (sym (refusal-read_source source) ∙ none)
  where
    go : (x : Result Located (ℕ × Cause)) → read_source source ≡ x → error_of (read_source source) ≡ None → IsSpelled source
    go (Ok t) e h = (t, spelled-read_source source t e, read_source-shallow source t e)
    go (Err x) e h =
        let some : Some x ≡ error_of (read_source source) = sym (ap error_of e) in
        absurd (let y : ⊥ = cc in y)

-- a source that spells a tree is not refused
pub not_refused-spelled : (source : List ℕ) (t : Located) → SpellsSource t source → IsShallow t → refusal source ≡ None
not_refused-spelled source t spells depth =
    refusal-read_source source ∙ ap error_of (read_source-spelled source t spells depth)
