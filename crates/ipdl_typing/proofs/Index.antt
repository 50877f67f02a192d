-- The index of the visible channels: what it finds, and how it follows the stack.
use Rattle.std.proofs.Common.{◌≡◌, ℕ, suc, ◌<◌, Bool, true, false, if◌then◌else◌, List, [], ◌∷◌, ◌++◌, map, reverse, length, Bor, get_or, Option, Some, None, refl, sym, ap, ◌∙◌, subst, arith}
use Rattle.std.specs.Prelude.{bytes_eq}
use Rattle.std.proofs.Math.Bool.{or-false, or-true}
use Rattle.std.proofs.Math.ListN.{set, get_or-append}
use Rattle.std.proofs.Math.Seq.{get_or-append_seam, set-append_seam}
use Rattle.std.proofs.lemmas.List.{length-reverse, reverse-append, reverse-reverse, set-append_left}
use mathlib.Core.Path.{fun_ext}
use Rattle.ipdl_term.specs.Terms.{Channel}
use Rattle.ipdl_term.specs.Channels.{same_channel, has}
use Rattle.ipdl_term.proofs.ChannelSets.{same_channel-sound, same_channel-itself, same_channel_comm, bytes_eq-same_channel}
use Rattle.ipdl_typing.specs.declared.visible.Visible.{Visible}
use Rattle.ipdl_typing.specs.Visible.{Entry, visible_entry, entries_of, innermost, apart_from, marked_entry, marked, index_in, AreLinked, IsIndexed}
use Rattle.ipdl_typing.proofs.VisibleLaws.{marked-none, apart_from-same, apart_from-other, marked_entry-other, marked-missing}

-- ---- lists from their other end

-- what `reverse` makes of a list's first element
pub reverse-cons : {X : Type 0} (x : X) (xs : List X) → reverse (x ∷ xs) ≡ reverse xs ++ x ∷ []
reverse-cons x xs = reverse-append (x ∷ []) xs

-- the last element comes first
pub reverse-push : {X : Type 0} (xs : List X) (x : X) → reverse (xs ++ x ∷ []) ≡ x ∷ reverse xs
reverse-push xs x = reverse-append xs (x ∷ [])

-- ---- what is found

-- an index that is found stands in the stack
pub index_in-within : (vs : List Visible) (c : Channel) (i : ℕ) → index_in vs c ≡ Some i → i < length vs
index_in-within [] c i found = cc
index_in-within (v ∷ vs) c i found = go (same_channel v.name.now c) found (index_in-within vs c i)
  where
    go : (b : Bool) → (if b then Some (length vs) else index_in vs c) ≡ Some i → (index_in vs c ≡ Some i → i < length vs) → i < suc (length vs)
    go true found rest = let e : length vs ≡ i = cc in omega arith
    go false found rest = let inner : i < length vs = rest found in omega arith

-- what stands at the last index
get_or-last : {X : Type 0} (x : X) (xs : List X) (i : ℕ) (d : X) → length xs ≡ i → get_or (reverse (x ∷ xs)) i d ≡ x
get_or-last x xs i d last =
    ap (λ l. get_or l i d) (reverse-cons x xs)
    ∙ ap (λ k. get_or (reverse xs ++ x ∷ []) k d) (sym last ∙ sym (length-reverse xs))
    ∙ get_or-append_seam (reverse xs) x [] d

-- what stands at an index below
get_or-below : {X : Type 0} (x : X) (xs : List X) (i : ℕ) (d : X) → i < length xs → get_or (reverse (x ∷ xs)) i d ≡ get_or (reverse xs) i d
get_or-below x xs i d within =
    ap (λ l. get_or l i d) (reverse-cons x xs)
    ∙ get_or-append (reverse xs) (x ∷ []) d i (subst (λ n. i < n) (sym (length-reverse xs)) within)

-- the channel at the index that is found is the innermost one of the name
pub innermost-found : (vs : List Visible) (c : Channel) (i : ℕ) (v : Visible) → index_in vs c ≡ Some i → get_or (reverse vs) i v ≡ v → innermost (map visible_entry vs) c ≡ Some (visible_entry v)
innermost-found [] c i v found at = cc
innermost-found (u ∷ vs) c i v found at =
    go (same_channel u.name.now c) found (λ below. innermost-found vs c i v below (sym (get_or-below u vs i v (index_in-within vs c i below)) ∙ at))
  where
    go : (b : Bool) → (if b then Some (length vs) else index_in vs c) ≡ Some i → (index_in vs c ≡ Some i → innermost (map visible_entry vs) c ≡ Some (visible_entry v)) → (if b then Some (visible_entry u) else innermost (map visible_entry vs) c) ≡ Some (visible_entry v)
    go true found rest = ap (λ w. Some (visible_entry w)) (sym (get_or-last u vs i v cc) ∙ at)
    go false found rest = rest found

-- none of a name is visible that is not found
pub innermost-missing : (vs : List Visible) (c : Channel) → index_in vs c ≡ None → innermost (map visible_entry vs) c ≡ None
innermost-missing [] c none = refl
innermost-missing (v ∷ vs) c none = go (same_channel v.name.now c) none (innermost-missing vs c)
  where
    go : (b : Bool) → (if b then Some (length vs) else index_in vs c) ≡ None → (index_in vs c ≡ None → innermost (map visible_entry vs) c ≡ None) → (if b then Some (visible_entry v) else innermost (map visible_entry vs) c) ≡ None
    go true none rest = cc
    go false none rest = rest none

-- ---- a channel that is written

-- the channel, written
abbrev pub as_written : Visible → Visible
as_written v = record v { written = true }

-- the innermost channel of the name is written
abbrev pub writing : Channel → List Visible → List Visible
writing c [] = []
writing c (v ∷ vs) = if same_channel v.name.now c then (as_written v ∷ vs) else (v ∷ writing c vs)

-- it is the one at the index that is found
pub set-writing : (vs : List Visible) (c : Channel) (i : ℕ) (v : Visible) → index_in vs c ≡ Some i → get_or (reverse vs) i v ≡ v → reverse (set (reverse vs) i (as_written v)) ≡ writing c vs
set-writing [] c i v found at = cc
set-writing (u ∷ vs) c i v found at =
    go (same_channel u.name.now c) found (λ below. set-writing vs c i v below (sym (get_or-below u vs i v (index_in-within vs c i below)) ∙ at))
  where
    go : (b : Bool) → (if b then Some (length vs) else index_in vs c) ≡ Some i → (index_in vs c ≡ Some i → reverse (set (reverse vs) i (as_written v)) ≡ writing c vs) → reverse (set (reverse (u ∷ vs)) i (as_written v)) ≡ (if b then (as_written u ∷ vs) else (u ∷ writing c vs))
    go true found rest =
        let last : length vs ≡ i = cc in
        let this : v ≡ u = sym at ∙ get_or-last u vs i v last in
        ap (λ l. reverse (set l i (as_written v))) (reverse-cons u vs)
        ∙ ap (λ k. reverse (set (reverse vs ++ u ∷ []) k (as_written v))) (sym last ∙ sym (length-reverse vs))
        ∙ ap reverse (set-append_seam (reverse vs) u [] (as_written v))
        ∙ reverse-push (reverse vs) (as_written v)
        ∙ ap (λ w. as_written w ∷ reverse (reverse vs)) this
        ∙ ap (λ l. as_written u ∷ l) (reverse-reverse vs)
    go false found rest =
        let within = index_in-within vs c i found in
        ap (λ l. reverse (set l i (as_written v))) (reverse-cons u vs)
        ∙ ap reverse (set-append_left (reverse vs) (u ∷ []) i (as_written v) (subst (λ n. i < n) (sym (length-reverse vs)) within))
        ∙ reverse-push (set (reverse vs) i (as_written v)) u
        ∙ ap (λ l. u ∷ l) (rest found)

-- it is marked, and no other
pub map-writing : (c : Channel) (vs : List Visible) → map visible_entry (writing c vs) ≡ marked (same_channel c) (map visible_entry vs)
map-writing c [] = refl
map-writing c (v ∷ vs) = go (same_channel v.name.now c) refl (map-writing c vs)
  where
    go : (b : Bool) → same_channel v.name.now c ≡ b → map visible_entry (writing c vs) ≡ marked (same_channel c) (map visible_entry vs) → map visible_entry (if b then (as_written v ∷ vs) else (v ∷ writing c vs)) ≡ marked_entry (same_channel c v.name.now) (visible_entry v) ∷ marked (apart_from v.name.now (same_channel c)) (map visible_entry vs)
    go true named rest =
        rw (same_channel_comm c v.name.now ∙ named, apart_from-same c v.name.now named, marked-none (map visible_entry vs), or-true v.written) refl
    go false other rest =
        rw (marked_entry-other c (visible_entry v) other, apart_from-other c v.name.now other, rest) refl

length-writing : (c : Channel) (vs : List Visible) → length (writing c vs) ≡ length vs
length-writing c [] = refl
length-writing c (v ∷ vs) = go (same_channel v.name.now c) (length-writing c vs)
  where
    go : (b : Bool) → length (writing c vs) ≡ length vs → length (if b then (as_written v ∷ vs) else (v ∷ writing c vs)) ≡ suc (length vs)
    go true rest = refl
    go false rest = ap suc rest

-- the index stays as it is
pub index_in-writing : (c : Channel) (vs : List Visible) (d : Channel) → index_in (writing c vs) d ≡ index_in vs d
index_in-writing c [] d = refl
index_in-writing c (v ∷ vs) d = go (same_channel v.name.now c) (index_in-writing c vs d)
  where
    go : (b : Bool) → index_in (writing c vs) d ≡ index_in vs d → index_in (if b then (as_written v ∷ vs) else (v ∷ writing c vs)) d ≡ (if same_channel v.name.now d then Some (length vs) else index_in vs d)
    go true rest = refl
    go false rest = rw (length-writing c vs, rest) refl

-- and so do the links
pub AreLinked-writing : (c : Channel) (vs : List Visible) → AreLinked vs → AreLinked (writing c vs)
AreLinked-writing c [] linked = tt
AreLinked-writing c (v ∷ vs) linked = go (same_channel v.name.now c) (AreLinked-writing c vs linked.1)
  where
    go : (b : Bool) → AreLinked (writing c vs) → AreLinked (if b then (as_written v ∷ vs) else (v ∷ writing c vs))
    go true rest = linked
    go false rest = (linked.0 ∙ sym (index_in-writing c vs v.name.now), rest)

-- a set of one channel
pub has-one : (c : Channel) → same_channel c ≡ has (c ∷ [])
has-one c = fun_ext (λ d. sym (or-false (same_channel c d)))

-- ---- the stack and its index

-- the stack as it is looked through, and back
at_reversed : (stack : List Visible) (i : ℕ) (v : Visible) → get_or stack i v ≡ v → get_or (reverse (reverse stack)) i v ≡ v
at_reversed stack i v at = ap (λ l. get_or l i v) (reverse-reverse stack) ∙ at

-- writing the channel that is found
reverse-written : (stack : List Visible) (c : Channel) (i : ℕ) (v : Visible) → index_in (reverse stack) c ≡ Some i → get_or stack i v ≡ v → reverse (set stack i (as_written v)) ≡ writing c (reverse stack)
reverse-written stack c i v is at =
    ap (λ l. reverse (set l i (as_written v))) (sym (reverse-reverse stack))
    ∙ set-writing (reverse stack) c i v is (at_reversed stack i v at)

-- the index after a channel that is written
pub IsIndexed-written : (stack : List Visible) (found : Channel → Option ℕ) (c : Channel) (i : ℕ) (v : Visible) → IsIndexed stack found → found c ≡ Some i → get_or stack i v ≡ v → IsIndexed (set stack i (as_written v)) found
IsIndexed-written stack found c i v indexed is at =
    let written = reverse-written stack c i v (sym (indexed.finds c) ∙ is) at in
    record {
      linked = subst AreLinked (sym written) (AreLinked-writing c (reverse stack) indexed.linked);
      finds = λ d. indexed.finds d ∙ sym (index_in-writing c (reverse stack) d) ∙ ap (λ l. index_in l d) (sym written);
    }

-- the index after a channel more
pub IsIndexed-push : (stack reserved pushed : List Visible) (old new : Channel → Option ℕ) (v : Visible) → IsIndexed stack old → reserved ≡ stack → pushed ≡ reserved ++ v ∷ [] → v.outer ≡ old v.name.now → ((c : Channel) → new c ≡ (if bytes_eq v.name.now c then Some (length stack) else old c)) → IsIndexed pushed new
IsIndexed-push stack reserved pushed old new v indexed same is outer put =
    let top : reverse pushed ≡ v ∷ reverse stack = ap reverse (is ∙ ap (λ l. l ++ v ∷ []) same) ∙ reverse-push stack v in
    record {
      linked = subst AreLinked (sym top) (outer ∙ indexed.finds v.name.now, indexed.linked);
      finds = λ c.
          put c
          ∙ ap (λ b. if b then Some (length stack) else old c) (bytes_eq-same_channel v.name.now c)
          ∙ ap (λ n. if same_channel v.name.now c then Some n else old c) (sym (length-reverse stack))
          ∙ ap (λ o. if same_channel v.name.now c then Some (length (reverse stack)) else o) (indexed.finds c)
          ∙ ap (λ l. index_in l c) (sym top);
    }

-- the index after a channel less
pub IsIndexed-pop : (stack rest : List Visible) (old new : Channel → Option ℕ) (v : Visible) → IsIndexed stack old → stack ≡ rest ++ v ∷ [] → ((c : Channel) → new c ≡ (if bytes_eq v.name.now c then v.outer else old c)) → IsIndexed rest new
IsIndexed-pop stack rest old new v indexed is put =
    let top : reverse stack ≡ v ∷ reverse rest = ap reverse is ∙ reverse-push rest v in
    let linked : AreLinked (v ∷ reverse rest) = subst AreLinked top indexed.linked in
    record {
      linked = linked.1;
      finds = λ c.
          put c
          ∙ ap (λ b. if b then v.outer else old c) (bytes_eq-same_channel v.name.now c)
          ∙ ap (λ o. if same_channel v.name.now c then v.outer else o) (indexed.finds c ∙ ap (λ l. index_in l c) top)
          ∙ go c (same_channel v.name.now c) refl linked.0;
    }
  where
    go : (c : Channel) (b : Bool) → same_channel v.name.now c ≡ b → v.outer ≡ index_in (reverse rest) v.name.now → (if b then v.outer else (if b then Some (length (reverse rest)) else index_in (reverse rest) c)) ≡ index_in (reverse rest) c
    go c true named outer = outer ∙ ap (index_in (reverse rest)) (same_channel-sound v.name.now c named)
    go c false other outer = refl

-- the last channel of the stack is found
pub last_is_found : (stack rest : List Visible) (found : Channel → Option ℕ) (v : Visible) → IsIndexed stack found → stack ≡ rest ++ v ∷ [] → None ≡ found v.name.now → ⊥
last_is_found stack rest found v indexed is none =
    let top : reverse stack ≡ v ∷ reverse rest = ap reverse is ∙ reverse-push rest v in
    let here : index_in (v ∷ reverse rest) v.name.now ≡ Some (length (reverse rest)) = ap (λ b. if b then Some (length (reverse rest)) else index_in (reverse rest) v.name.now) (same_channel-itself v.name.now) in
    let some : None ≡ Some (length (reverse rest)) = none ∙ indexed.finds v.name.now ∙ ap (λ l. index_in l v.name.now) top ∙ here in
    cc

-- ---- what a look-up answers

-- the channel that is found
pub innermost_is : (stack : List Visible) (found : Channel → Option ℕ) (c : Channel) (i : ℕ) (v : Visible) → IsIndexed stack found → found c ≡ Some i → get_or stack i v ≡ v → Some (visible_entry v) ≡ innermost (entries_of stack) c
innermost_is stack found c i v indexed is at =
    sym (innermost-found (reverse stack) c i v (sym (indexed.finds c) ∙ is) (at_reversed stack i v at))

-- none is found
pub innermost_none : (stack : List Visible) (found : Channel → Option ℕ) (c : Channel) → IsIndexed stack found → found c ≡ None → None ≡ innermost (entries_of stack) c
innermost_none stack found c indexed none = sym (innermost-missing (reverse stack) c (sym (indexed.finds c) ∙ none))

-- the index that is found stands in the stack
pub found_within : (stack : List Visible) (found : Channel → Option ℕ) (c : Channel) (i : ℕ) → IsIndexed stack found → found c ≡ Some i → i < length stack
found_within stack found c i indexed is =
    subst (λ n. i < n) (length-reverse stack) (index_in-within (reverse stack) c i (sym (indexed.finds c) ∙ is))

-- the channel that is found is marked
pub marked_is : (stack : List Visible) (found : Channel → Option ℕ) (c : Channel) (i : ℕ) (v : Visible) → IsIndexed stack found → found c ≡ Some i → get_or stack i v ≡ v → entries_of (set stack i (as_written v)) ≡ marked (has (c ∷ [])) (entries_of stack)
marked_is stack found c i v indexed is at =
    ap (map visible_entry) (reverse-written stack c i v (sym (indexed.finds c) ∙ is) at)
    ∙ map-writing c (reverse stack)
    ∙ ap (λ test. marked test (entries_of stack)) (has-one c)

-- none is marked
pub marked_none : (es : List Entry) (c : Channel) → None ≡ innermost es c → es ≡ marked (has (c ∷ [])) es
marked_none es c none = sym (marked-missing es c (sym none)) ∙ ap (λ test. marked test es) (has-one c)

-- a reference to a name, for a look-up
abbrev pub a_name : Channel → Bor (List ℕ)
a_name c = record { ref_ptr = (0, 0); now = c }
