-- Reading is sound: a source that is read spells the tree that reading gives.
use Rattle.std.proofs.Common.{◌≡◌, ℕ, ◌+◌, ◌-◌, ◌<◌, ◌≤◌, ◌^◌, Bool, true, false, ◌||◌, if◌then◌else◌, eqb, List, [], ◌∷◌, ◌++◌, length, Option, Some, None, Ok, IsTrue, inl, inr, refl, sym, ap, ap₂, ◌∙◌, subst, arith}
use Rattle.std.specs.Prelude.{◌==◌}
use Rattle.std.specs.Char.{len_utf8, encode_utf8, IsScalar}
use Rattle.std.specs.Fmt.{decimal}
use Rattle.std.specs.Str.{encode_utf8_all, all_scalars}
use Rattle.std.proofs.lemmas.Bool.{and_parts}
use Rattle.std.proofs.lemmas.List.{append_assoc, append-nil, length-append}
use Rattle.std.proofs.lemmas.Str.{length-encode, IsUtf8-encode, IsUtf8-append, IsUtf8-nil, IsUtf8-from_is_utf8, is_utf8-from_IsUtf8}
use Rattle.ipdl_base.specs.Names.{continues_name, is_name}
use Rattle.ipdl_tree.specs.Trees.{Located, word, number, literal}
use Rattle.ipdl_tree.specs.Causes.{Cause, bad_byte}
use Rattle.ipdl_tree.specs.Characters.{is_digit, beginning_of}
use Rattle.ipdl_tree.specs.Reading.{continues, refusal_within, Token, no_token, comment, open_name, open_number, open_literal, Group, Reading, add_to, extended, after_beginning, after, refusal_of_any_beginning, refusal_of, unless, read_on, finish, IsNameToken, ◌>>=◌}
use Rattle.ipdl_tree.specs.Spelling.{ends_token, IsCommentText, EndsToken}
use Rattle.ipdl_tree.proofs.Characters.{eqb-same, ends_token-ascii, is_digit-range, bit_digit-eqb, bit-ascii, decimal-push, HasNoLineFeed-append, HasNoLineFeed-encode}
use Rattle.ipdl_tree.proofs.Rest.{FollowsTree, FollowsGap, FollowsComment, CompletesToken, FollowsToken, FollowsState, FollowsReading, IsGap-nil}
use Rattle.ipdl_tree.proofs.TokenNames.{IsNameToken-after}
use Rattle.ipdl_tree.proofs.TokenRanges.{IsInRange, IsInRange-after, number_goes_on}
use Rattle.ipdl_tree.proofs.Completing.{encode-front, between}

-- ---- a character that goes on with a token

goes_on : (token : Token) (c : ℕ) (tail : List ℕ) (u : Located) → continues token c ≡ true → refusal_within token c ≡ None → CompletesToken (extended token c) tail u → CompletesToken token (encode_utf8 c ++ tail) u
goes_on no_token c tail u goes none h = h
goes_on comment c tail u goes none h = h
goes_on (open_name start text) c tail u goes none (name, same) =
    let e = append_assoc text (encode_utf8 c) tail in
    let P : List ℕ → Type 0 = λ x. IsTrue (is_name x) × (u ≡ word start x) in
    subst P e (name, same)
goes_on (open_number start value) c tail u goes none (n, below, digits, same) =
    let range = is_digit-range c goes in
    let fits = number_goes_on start value c none in
    let one : encode_utf8 c ++ tail ≡ c ∷ tail = encode-front c tail (omega (arith, range.1)) in
    let digit : 48 + (c - 48) ≡ c = omega (arith, range.0) in (
      n,
      below,
      digits
          ∙ ap (λ x. x ++ tail) (decimal-push value (c - 48) fits.0 (omega (arith, range.0, range.1)) fits.1)
          ∙ append_assoc (decimal value) ((48 + (c - 48)) ∷ []) tail
          ∙ ap (λ x. decimal value ++ x ∷ tail) digit
          ∙ ap (λ x. decimal value ++ x) (sym one),
      same,
    )
goes_on (open_literal start bits) c tail u goes none (more, within, digits, same) =
    let e = append_assoc bits ((c == 49) ∷ []) more in
    let P : List Bool → Type 0 = λ x. (length x ≤ 128) in
    ((
      (c == 49) ∷ more,
      subst P e within,
      encode-front c tail (bit-ascii c goes) ∙ ap₂ (λ x y. x ∷ y) (sym (bit_digit-eqb c goes)) digits,
      same ∙ ap (literal start) e,
    ))

-- the rest of a token and what follows it, one character before
goes_on_before : (token : Token) (gs : List Group) (c o : ℕ) (t : Located) (text : List ℕ) → continues token c ≡ true → refusal_within token c ≡ None → FollowsToken (extended token c) gs t (o + len_utf8 c) text → FollowsToken token gs t o (encode_utf8 c ++ text)
goes_on_before token gs c o t text goes none (tail, rest, u, completes, ends, follows, e) =
    let n : o + len_utf8 c + length tail ≡ o + length (encode_utf8 c ++ tail) = omega (arith, length-append (encode_utf8 c) tail, length-encode c) in
    let P : ℕ → Type 0 = λ m. FollowsTree gs t u m rest in (
      encode_utf8 c ++ tail,
      rest,
      u,
      goes_on token c tail u goes none completes,
      ends,
      subst P n follows,
      ap (λ x. encode_utf8 c ++ x) e ∙ sym (append_assoc (encode_utf8 c) tail rest),
    )

-- ---- a token ends

FollowsTree-gap : (u : Located) (gs : List Group) (k : Option Located) (t : Located) (o : ℕ) (text : List ℕ) → FollowsGap (add_to u gs k).groups (add_to u gs k).complete t o text → FollowsTree gs t u o text
FollowsTree-gap u [] k t o text h = h
FollowsTree-gap u (g ∷ gs) k t o text h = h

ends_before : (token : Token) (u : Located) (gs : List Group) (k : Option Located) (c o : ℕ) (t : Located) (text : List ℕ) → CompletesToken token [] u → ends_token c ≡ true → FollowsGap (add_to u gs k).groups (add_to u gs k).complete t o (encode_utf8 c ++ text) → FollowsToken token gs t o (encode_utf8 c ++ text)
ends_before token u gs k c o t text completes ends h =
    let P : List ℕ → Type 0 = EndsToken in
    let Q : ℕ → Type 0 = λ m. FollowsTree gs t u m (encode_utf8 c ++ text) in
    let same : o ≡ o + 0 = omega arith in (
      [],
      encode_utf8 c ++ text,
      u,
      completes,
      subst P (sym (encode-front c text (ends_token-ascii c ends))) ends,
      subst Q same (FollowsTree-gap u gs k t o (encode_utf8 c ++ text) h),
      refl,
    )

-- a character where a token is open
in_token : (goes ends : Bool) (token : Token) (u : Located) (gs : List Group) (k : Option Located) (c o : ℕ) (t : Located) (text : List ℕ) → continues token c ≡ goes → ends_token c ≡ ends → CompletesToken token [] u → (FollowsState (extended token c) gs k t (o + len_utf8 c) text → FollowsToken (extended token c) gs t (o + len_utf8 c) text)
    → (if goes then refusal_within token c else (if ends then refusal_of_any_beginning (add_to u gs k) (beginning_of c) else Some bad_byte)) ≡ None
    → FollowsReading (if goes then record { token = extended token c; groups = gs; complete = k } else after_beginning (add_to u gs k) o c (beginning_of c)) t (o + len_utf8 c) text
    → FollowsToken token gs t o (encode_utf8 c ++ text)
in_token true ends token u gs k c o t text eg ee completes conv none h = goes_on_before token gs c o t text eg none (conv h)
in_token false true token u gs k c o t text eg ee completes conv none h = ends_before token u gs k c o t text completes ee (between (add_to u gs k) c o t text none h)
in_token false false token u gs k c o t text eg ee completes conv none h = absurd (let x : ⊥ = cc in x)

-- the token is complete as it is
complete_name : (start : ℕ) (text : List ℕ) → IsTrue (is_name text) → CompletesToken (open_name start text) [] (word start text)
complete_name start text name =
    let P : List ℕ → Type 0 = λ x. IsTrue (is_name x) × (word start text ≡ word start x) in subst P (sym (append-nil text)) (name, refl)

complete_number : (start value : ℕ) → value < 2 ^ 32 → CompletesToken (open_number start value) [] (number start value)
complete_number start value below = (value, below, sym (append-nil (decimal value)), refl)

complete_literal : (start : ℕ) (bits : List Bool) → length bits ≤ 128 → CompletesToken (open_literal start bits) [] (literal start bits)
complete_literal start bits within =
    let P : List Bool → Type 0 = λ x. length x ≤ 128 in
    ([], subst P (sym (append-nil bits)) within, refl, ap (literal start) (sym (append-nil bits)))

-- ---- a comment

IsCommentText-more : (c : ℕ) (words : List ℕ) → IsScalar c → eqb c 10 ≡ false → IsCommentText words → IsCommentText (encode_utf8 c ++ words)
IsCommentText-more c words s other (utf8, none) = (
  is_utf8-from_IsUtf8 (encode_utf8 c ++ words) (IsUtf8-append (encode_utf8 c) words (IsUtf8-encode c s) (IsUtf8-from_is_utf8 words utf8)),
  HasNoLineFeed-append (encode_utf8 c) words (HasNoLineFeed-encode c other) none,
)

in_comment : (line_feed : Bool) (gs : List Group) (k : Option Located) (c o : ℕ) (t : Located) (text : List ℕ) → IsScalar c → eqb c 10 ≡ line_feed → FollowsReading (if line_feed then record { token = no_token; groups = gs; complete = k } else record { token = comment; groups = gs; complete = k }) t (o + len_utf8 c) text → FollowsComment gs k t o (encode_utf8 c ++ text)
in_comment true gs k c o t text s e h =
    let same = eqb-same c 10 e in
    let small : c < 128 = omega (arith, same) in
    let P : ℕ → Type 0 = λ n. FollowsGap gs k t n text in
    let n : o + len_utf8 c ≡ o + 0 + 1 = omega (arith, sym (length-encode c) ∙ ap length (encode-only c small)) in
    let empty : IsCommentText [] = (is_utf8-from_IsUtf8 [] IsUtf8-nil, tt) in
    inl ([], text, empty, subst P n h, encode-front c text small ∙ ap (λ x. x ∷ text) same)
  where
    encode-only : (x : ℕ) → x < 128 → encode_utf8 x ≡ x ∷ []
    encode-only x small = sym (append-nil (encode_utf8 x)) ∙ encode-front x [] small
in_comment false gs k c o t text s e (inl (words, rest, is, follows, split)) =
    let n : o + len_utf8 c + length words + 1 ≡ o + length (encode_utf8 c ++ words) + 1 = omega (arith, length-append (encode_utf8 c) words, length-encode c) in
    let P : ℕ → Type 0 = λ m. FollowsGap gs k t m rest in
    inl (
      encode_utf8 c ++ words,
      rest,
      IsCommentText-more c words s e is,
      subst P n follows,
      ap (λ x. encode_utf8 c ++ x) split ∙ sym (append_assoc (encode_utf8 c) words (10 ∷ rest)),
    )
in_comment false gs k c o t text s e (inr (is, none, same)) = inr (IsCommentText-more c text s e is, none, same)

-- ---- one character before

before-state : (token : Token) (gs : List Group) (k : Option Located) (c o : ℕ) (t : Located) (text : List ℕ) → IsScalar c → IsNameToken token → IsInRange token → refusal_of (record { token = token; groups = gs; complete = k }) c ≡ None → FollowsReading (after (record { token = token; groups = gs; complete = k }) o c) t (o + len_utf8 c) text → FollowsState token gs k t o (encode_utf8 c ++ text)
before-state no_token gs k c o t text s name range none h = between (record { token = no_token; groups = gs; complete = k }) c o t text none h
before-state comment gs k c o t text s name range none h = in_comment (eqb c 10) gs k c o t text s refl h
before-state (open_name start word_text) gs k c o t text s name range none h =
    in_token (continues_name c) (ends_token c) (open_name start word_text) (word start word_text) gs k c o t text refl refl (complete_name start word_text name) (λ x. x) none h
before-state (open_number start value) gs k c o t text s name range none h =
    in_token (is_digit c) (ends_token c) (open_number start value) (number start value) gs k c o t text refl refl (complete_number start value range) (λ x. x) none h
before-state (open_literal start bits) gs k c o t text s name range none h =
    in_token (eqb c 48 || eqb c 49) (ends_token c) (open_literal start bits) (literal start bits) gs k c o t text refl refl (complete_literal start bits range) (λ x. x) none h

-- ---- the end

at_end : (token : Token) (gs : List Group) (k : Option Located) (o : ℕ) (t : Located) → IsNameToken token → IsInRange token → finish (record { token = token; groups = gs; complete = k }) o ≡ Ok t → FollowsState token gs k t o []
at_end no_token [] None o t name range e = absurd (let x : ⊥ = cc in x)
at_end no_token [] (Some u) o t name range e = (inl IsGap-nil, cc)
at_end no_token (g ∷ gs) k o t name range e = absurd (let x : ⊥ = cc in x)
at_end comment [] None o t name range e = absurd (let x : ⊥ = cc in x)
at_end comment [] (Some u) o t name range e = inr ((is_utf8-from_IsUtf8 [] IsUtf8-nil, tt), refl, cc)
at_end comment (g ∷ gs) k o t name range e = absurd (let x : ⊥ = cc in x)
at_end (open_name start text) [] k o t name range e = ([], [], word start text, complete_name start text name, tt, (inl IsGap-nil, cc), refl)
at_end (open_name start text) (g ∷ gs) k o t name range e = absurd (let x : ⊥ = cc in x)
at_end (open_number start value) [] k o t name range e = ([], [], number start value, complete_number start value range, tt, (inl IsGap-nil, cc), refl)
at_end (open_number start value) (g ∷ gs) k o t name range e = absurd (let x : ⊥ = cc in x)
at_end (open_literal start bits) [] k o t name range e = ([], [], literal start bits, complete_literal start bits range, tt, (inl IsGap-nil, cc), refl)
at_end (open_literal start bits) (g ∷ gs) k o t name range e = absurd (let x : ⊥ = cc in x)

-- what reading gives follows the state that it began in
pub read_on-follows : (cs : List ℕ) (r : Reading) (o : ℕ) (t : Located) → all_scalars cs ≡ true → IsNameToken r.token → IsInRange r.token → read_on refusal_of r o cs finish ≡ Ok t → FollowsReading r t o (encode_utf8_all cs)
read_on-follows [] r o t all name range e = at_end r.token r.groups r.complete o t name range e
read_on-follows (c ∷ cs) r o t all name range e =
    let s = and_parts _ _ all in
    go s.0 (λ none given. read_on-follows cs (after r o c) (o + len_utf8 c) t s.1 (IsNameToken-after r o c s.0 none name) (IsInRange-after r o c none range) given) (refusal_of r c) refl e
  where
    go : IsScalar c → (refusal_of r c ≡ None → read_on refusal_of (after r o c) (o + len_utf8 c) cs finish ≡ Ok t → FollowsReading (after r o c) t (o + len_utf8 c) (encode_utf8_all cs)) → (x : Option Cause) → refusal_of r c ≡ x → (unless x o (after r o c) >>= λ next. read_on refusal_of next (o + len_utf8 c) cs finish) ≡ Ok t → FollowsReading r t o (encode_utf8 c ++ encode_utf8_all cs)
    go s later (Some cause) none given = absurd (let x : ⊥ = cc in x)
    go s later None none given = before-state r.token r.groups r.complete c o t (encode_utf8_all cs) s name range none (later none given)
