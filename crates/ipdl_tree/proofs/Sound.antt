-- What reading keeps: a complete tree stands alone, and nothing is deeper than may be.
use Rattle.std.proofs.Common.{◌≡◌, ℕ, suc, ◌+◌, ◌<◌, ◌≤◌, max, Bool, true, false, ◌||◌, if◌then◌else◌, ltb, eqb, List, [], ◌∷◌, ◌++◌, length, take, Option, Some, None, Result, Ok, Err, refl, subst, arith}
use Rattle.std.specs.Prelude.{◌==◌}
use Rattle.std.specs.Char.{len_utf8}
use Rattle.std.specs.Str.{chars}
use Rattle.std.specs.Str.Lossy.{utf8_valid_len}
use Rattle.std.proofs.lemmas.Bool.Decides.{nat_tests}
use Rattle.ipdl_base.specs.Names.{continues_name}
use Rattle.ipdl_tree.specs.declared.character.Beginning.{Beginning}
use Rattle.ipdl_tree.specs.declared.character.Beginning.TheVariants.{Blank, Comment, Opening, Closing, Number, Literal, Word, Nothing}
use Rattle.ipdl_tree.specs.Trees.{Located, word, number, literal, group, depth_of, greatest_depth, most_open}
use Rattle.ipdl_tree.specs.Spelling.{ends_token}
use Rattle.ipdl_tree.specs.Causes.{Cause, bad_byte, deep}
use Rattle.ipdl_tree.specs.Characters.{is_digit, beginning_of}
use Rattle.ipdl_tree.specs.Views.{forest}
use Rattle.ipdl_tree.specs.Reading.{Token, no_token, comment, open_name, open_number, open_literal, Group, Reading, nothing_read, add_to, after_beginning, after, refusal_of_any_beginning, refusal_of, unless, read_on, finish, read_source, ◌>>=◌}

-- no tree is under way
abbrev pub IsQuiet : Token → Type 0
IsQuiet no_token = Unit {0}
IsQuiet comment = Unit {0}
IsQuiet _ = ⊥

-- each group may be closed
abbrev pub AreShallow : List Group → Type 0
AreShallow [] = Unit {0}
AreShallow (g ∷ gs) = (greatest_depth (forest g.parts) + suc (length gs) ≤ most_open) × AreShallow gs

abbrev pub IsSoundState : Token → List Group → Option Located → Type 0
IsSoundState token gs None = AreShallow gs
IsSoundState token gs (Some t) = IsQuiet token × (gs ≡ []) × (depth_of t ≤ most_open)

abbrev pub IsSound : Reading → Type 0
IsSound r = IsSoundState r.token r.groups r.complete

-- ---- a tree is added

greatest_depth-push : (ts : List Located) (t : Located) → greatest_depth (forest (ts ++ t ∷ [])) ≡ max (greatest_depth (forest ts)) (depth_of t)
greatest_depth-push [] t = omega arith
greatest_depth-push (u ∷ us) t = omega (arith, greatest_depth-push us t)

-- a state with one more tree is sound
pub IsSound-add_to : (t : Located) (gs : List Group) → depth_of t + length gs ≤ most_open → AreShallow gs → IsSound (add_to t gs None)
IsSound-add_to t [] d h = (tt, refl, omega arith)
IsSound-add_to t (g ∷ gs) d h = (omega (arith, h.0, greatest_depth-push g.parts t), h.1)

AreShallow-length : (gs : List Group) → AreShallow gs → length gs ≤ most_open
AreShallow-length [] h = omega arith
AreShallow-length (g ∷ gs) h = omega (arith, h.0)

-- ---- a character where no token is open

below_most : (n : ℕ) → (if ltb n most_open then None else Some deep) ≡ None → n < most_open
below_most n e = go (ltb n most_open) refl e
  where
    go : (b : Bool) → ltb n most_open ≡ b → (if b then None else Some deep) ≡ None → n < most_open
    go true e h = grind (arith, nat_tests)
    go false e h = cc

IsSound-beginning : (token : Token) (gs : List Group) (k : Option Located) (n c : ℕ) (b : Beginning) → refusal_of_any_beginning (record { token = token; groups = gs; complete = k }) b ≡ None → IsSoundState no_token gs k → IsSound (after_beginning (record { token = token; groups = gs; complete = k }) n c b)
IsSound-beginning token gs None n c Blank none h = h
IsSound-beginning token gs None n c Comment none h = h
IsSound-beginning token gs None n c Opening none h = (omega (arith, below_most (length gs) none), h)
IsSound-beginning token [] None n c Closing none h = cc
IsSound-beginning token (g ∷ gs) None n c Closing none h = IsSound-add_to (group g.start (forest g.parts)) gs (omega (arith, h.0)) h.1
IsSound-beginning token gs None n c Number none h = h
IsSound-beginning token gs None n c Literal none h = h
IsSound-beginning token gs None n c Word none h = h
IsSound-beginning token gs None n c Nothing none h = cc
IsSound-beginning token gs (Some t) n c Blank none h = h
IsSound-beginning token gs (Some t) n c Comment none h = (tt, h.1, h.2)
IsSound-beginning token gs (Some t) n c Opening none h = cc
IsSound-beginning token gs (Some t) n c Closing none h = cc
IsSound-beginning token gs (Some t) n c Number none h = cc
IsSound-beginning token gs (Some t) n c Literal none h = cc
IsSound-beginning token gs (Some t) n c Word none h = cc
IsSound-beginning token gs (Some t) n c Nothing none h = cc

-- a sound state is one without its token
pub IsSound-no_token : (token : Token) (gs : List Group) (k : Option Located) → IsSoundState token gs k → IsSoundState no_token gs k
IsSound-no_token token gs None h = h
IsSound-no_token token gs (Some t) h = (tt, h.1, h.2)

-- where a token is open
in_token : (goes ends : Bool) (within : Option Cause) (t : Located) (longer : Token) (gs : List Group) (n c : ℕ) → depth_of t ≡ 0 → (if goes then within else (if ends then refusal_of_any_beginning (add_to t gs None) (beginning_of c) else Some bad_byte)) ≡ None → AreShallow gs
    → IsSound (if goes then record { token = longer; groups = gs; complete = None } else after_beginning (add_to t gs None) n c (beginning_of c))
in_token true ends within t longer gs n c d none h = h
in_token false true within t longer gs n c d none h =
    let q = add_to t gs None in
    let sound = IsSound-add_to t gs (omega (arith, d, AreShallow-length gs h)) h in
    IsSound-beginning q.token q.groups q.complete n c (beginning_of c) none (IsSound-no_token q.token q.groups q.complete sound)
in_token false false within t longer gs n c d none h = cc

in_comment : (b : Bool) (r q : Reading) → IsSound r → IsSound q → IsSound (if b then r else q)
in_comment true r q hr hq = hr
in_comment false r q hr hq = hq

after-state : (token : Token) (gs : List Group) (k : Option Located) (n c : ℕ) → refusal_of (record { token = token; groups = gs; complete = k }) c ≡ None → IsSoundState token gs k → IsSound (after (record { token = token; groups = gs; complete = k }) n c)
after-state no_token gs k n c none h = IsSound-beginning no_token gs k n c (beginning_of c) none h
after-state comment gs k n c none h =
    in_comment (eqb c 10) (record { token = no_token; groups = gs; complete = k }) (record { token = comment; groups = gs; complete = k }) (IsSound-no_token comment gs k h) h
after-state (open_name start text) gs None n c none h = in_token (continues_name c) (ends_token c) _ (word start text) _ gs n c refl none h
after-state (open_name start text) gs (Some t) n c none h = absurd h.0
after-state (open_number start value) gs None n c none h = in_token (is_digit c) (ends_token c) _ (number start value) _ gs n c refl none h
after-state (open_number start value) gs (Some t) n c none h = absurd h.0
after-state (open_literal start bits) gs None n c none h = in_token (eqb c 48 || eqb c 49) (ends_token c) _ (literal start bits) _ gs n c refl none h
after-state (open_literal start bits) gs (Some t) n c none h = absurd h.0

-- a character that is not refused keeps a state sound
pub IsSound-after : (r : Reading) (n c : ℕ) → refusal_of r c ≡ None → IsSound r → IsSound (after r n c)
IsSound-after r n c none h = after-state r.token r.groups r.complete n c none h

-- ---- the tree that is read

same_depth : (t u : Located) (n : ℕ) → u ≡ t → depth_of u ≤ n → depth_of t ≤ n
same_depth t u n e h = let P : Located → Type 0 = λ x. depth_of x ≤ n in subst P e h

finish-shallow : (token : Token) (gs : List Group) (k : Option Located) (m : ℕ) (t : Located) → IsSoundState token gs k → finish (record { token = token; groups = gs; complete = k }) m ≡ Ok t → depth_of t ≤ most_open
finish-shallow no_token [] None m t h e = cc
finish-shallow no_token [] (Some u) m t h e = same_depth t u most_open (cc) h.2
finish-shallow no_token (g ∷ gs) k m t h e = cc
finish-shallow comment [] None m t h e = cc
finish-shallow comment [] (Some u) m t h e = same_depth t u most_open (cc) h.2
finish-shallow comment (g ∷ gs) k m t h e = cc
finish-shallow (open_name start text) [] k m t h e = same_depth t (word start text) most_open (cc) (omega arith)
finish-shallow (open_name start text) (g ∷ gs) k m t h e = cc
finish-shallow (open_number start value) [] k m t h e = same_depth t (number start value) most_open (cc) (omega arith)
finish-shallow (open_number start value) (g ∷ gs) k m t h e = cc
finish-shallow (open_literal start bits) [] k m t h e = same_depth t (literal start bits) most_open (cc) (omega arith)
finish-shallow (open_literal start bits) (g ∷ gs) k m t h e = cc

end-shallow : (b : Bool) (q : Reading) (m : ℕ) (t : Located) → IsSound q → (if b then finish q m else Err (m, bad_byte)) ≡ Ok t → depth_of t ≤ most_open
end-shallow true q m t h e = finish-shallow q.token q.groups q.complete m t h e
end-shallow false q m t h e = cc

-- what is read is not too deep
pub read_on-shallow : (cs : List ℕ) (r : Reading) (n : ℕ) (end : Reading → ℕ → Result Located (ℕ × Cause)) (t : Located) → ((q : Reading) (m : ℕ) → IsSound q → end q m ≡ Ok t → depth_of t ≤ most_open) → IsSound r → read_on refusal_of r n cs end ≡ Ok t → depth_of t ≤ most_open
read_on-shallow [] r n end t ends h e = ends r n h e
read_on-shallow (c ∷ cs) r n end t ends h e =
    go (λ none given. read_on-shallow cs (after r n c) (n + len_utf8 c) end t ends (IsSound-after r n c none h) given) (refusal_of r c) refl e
  where
    go : (refusal_of r c ≡ None → read_on refusal_of (after r n c) (n + len_utf8 c) cs end ≡ Ok t → depth_of t ≤ most_open) → (x : Option Cause) → refusal_of r c ≡ x → (unless x n (after r n c) >>= λ next. read_on refusal_of next (n + len_utf8 c) cs end) ≡ Ok t → depth_of t ≤ most_open
    go later (Some cause) none given = cc
    go later None none given = later none given

-- the tree that is read is not too deep
pub read_source-shallow : (source : List ℕ) (t : Located) → read_source source ≡ Ok t → depth_of t ≤ most_open
unfolding read_source
read_source-shallow source t e =
    read_on-shallow (chars (take (utf8_valid_len source) source)) nothing_read 0 _ t
    (λ q m h given. end-shallow (utf8_valid_len source == length source) q m t h given) tt e
