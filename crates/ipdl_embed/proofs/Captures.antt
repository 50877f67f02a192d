-- New names that are captured, and names that are kept below hidden channels.
use Rattle.std.proofs.Common.{◌≡◌, ◌↔◌, ℕ, ◌+◌, ◌<◌, ◌≤◌, Bool, true, false, ◌&&◌, ◌||◌, not, if◌then◌else◌, List, [], ◌∷◌, ◌++◌, slice_get, drop, length, get_or, Bor, Option, Some, None, refl, sym, ap, ◌∙◌}
use Rattle.std.specs.List.{filter}
use Rattle.std.specs.Map.{values_of}
use Rattle.std.specs.Option.{option_copied}
use Rattle.std.proofs.lemmas.Bool.{false≢true}
use Rattle.std.proofs.lemmas.List.{at_drop_more, drop_all}
use mathlib.Core.Path.{fun_ext}
use Rattle.ipdl_term.specs.Channels.{same_channel, has, SameSet, AreDisjoint}
use Rattle.ipdl_term.specs.Renaming.{Renaming, renaming_of, keeping}
use Rattle.ipdl_term.specs.Terms.{Channel}
use Rattle.ipdl_term.proofs.ChannelSets.{same_channel-sound, same_channel-itself, has-intersection}
use Rattle.ipdl_embed.specs.Captures.{captured, first_captured_target}
use Rattle.ipdl_embed.specs.Pairs.{Pairs, new_name}
use Rattle.ipdl_embed.specs.Tables.{keeping_all}
use Rattle.ipdl_embed.proofs.SeenPorts.{name_there, name_kept}

-- ---- the first captured name

captured-append : (pairs : Pairs) (cs ds : List Channel) → captured pairs (cs ++ ds) ≡ captured pairs cs ++ captured pairs ds
captured-append pairs [] ds = refl
captured-append pairs (c ∷ cs) ds = go (has (values_of pairs) c) (captured-append pairs cs ds)
  where
    go : (b : Bool) → captured pairs (cs ++ ds) ≡ captured pairs cs ++ captured pairs ds → (if b then (c ∷ captured pairs (cs ++ ds)) else captured pairs (cs ++ ds)) ≡ (if b then (c ∷ captured pairs cs) else captured pairs cs) ++ captured pairs ds
    go true rest = ap (λ list. c ∷ list) rest
    go false rest = rest

-- the first of two lists
first_left : (cs ds : List Channel) (c : Channel) → Some c ≡ slice_get cs 0 → Some c ≡ slice_get (cs ++ ds) 0
first_left [] ds c is = cc
first_left (d ∷ cs) ds c is = is

none_there : (cs : List Channel) → None ≡ slice_get cs 0 → cs ≡ []
none_there [] is = refl
none_there (c ∷ cs) is = cc

pub captured_left : (pairs : Pairs) (cs ds : List Channel) (c : Channel) → Some c ≡ slice_get (captured pairs cs) 0 → Some c ≡ slice_get (captured pairs (cs ++ ds)) 0
captured_left pairs cs ds c is =
    first_left (captured pairs cs) (captured pairs ds) c is ∙ ap (λ list. slice_get list 0) (sym (captured-append pairs cs ds))

pub captured_right : (pairs : Pairs) (cs ds : List Channel) (o : Option Channel) → None ≡ slice_get (captured pairs cs) 0 → o ≡ slice_get (captured pairs ds) 0 → o ≡ slice_get (captured pairs (cs ++ ds)) 0
captured_right pairs cs ds o none is =
    is ∙ ap (λ list. slice_get (list ++ captured pairs ds) 0) (sym (none_there (captured pairs cs) none)) ∙ ap (λ list. slice_get list 0) (sym (captured-append pairs cs ds))

-- where no name is captured no new name is hidden
pub none_captured : (pairs : Pairs) (hidden : List Channel) → None ≡ slice_get (captured pairs hidden) 0 → AreDisjoint (values_of pairs) hidden
none_captured pairs hidden none c new =
    let absent : has (captured pairs hidden) c ≡ false = ap (λ list. has list c) (none_there (captured pairs hidden) none) in
    go (has hidden c) (sym (has-intersection hidden (values_of pairs) c ∙ ap (λ b. has hidden c && b) new) ∙ absent)
  where
    go : (b : Bool) → (b && true) ≡ false → b ≡ false
    go true is = cc
    go false is = refl

-- ---- the first new name that is hidden

-- the set alone counts, and not the order of its list
pub first_captured_target-same : (pairs : Pairs) (hidden others : List Channel) → SameSet hidden others → first_captured_target pairs hidden ≡ first_captured_target pairs others
first_captured_target-same pairs hidden others same = ap (λ test. slice_get (filter test (values_of pairs)) 0) (fun_ext same)

-- there is none exactly where no new name is hidden
no_first : (hidden names : List Channel) → slice_get (filter (has hidden) names) 0 ≡ None → AreDisjoint names hidden
no_first hidden [] none c there = absurd (false≢true there)
no_first hidden (d ∷ names) none c there = go (has hidden d) refl none (same_channel d c) refl there (λ none there. no_first hidden names none c there)
  where
    go : (b : Bool) → has hidden d ≡ b → slice_get (if b then (d ∷ filter (has hidden) names) else filter (has hidden) names) 0 ≡ None → (s : Bool) → same_channel d c ≡ s → (s || has names c) ≡ true → (slice_get (filter (has hidden) names) 0 ≡ None → has names c ≡ true → has hidden c ≡ false) → has hidden c ≡ false
    go true is none s e there rest = cc
    go false is none true e there rest = ap (has hidden) (sym (same_channel-sound d c e)) ∙ is
    go false is none false e there rest = rest none there

first_is_none : (hidden names : List Channel) → AreDisjoint names hidden → slice_get (filter (has hidden) names) 0 ≡ None
first_is_none hidden [] disjoint = refl
first_is_none hidden (d ∷ names) disjoint =
    ap (λ b. slice_get (if b then (d ∷ filter (has hidden) names) else filter (has hidden) names) 0) (disjoint d (ap (λ b. b || has names d) (same_channel-itself d)))
    ∙ first_is_none hidden names (λ c there. disjoint c (ap (λ b. same_channel d c || b) there ∙ or_true (same_channel d c)))
  where
    or_true : (b : Bool) → (b || true) ≡ true
    or_true true = refl
    or_true false = refl

pub first_captured_target-none : (pairs : Pairs) (hidden : List Channel) → (first_captured_target pairs hidden ≡ None) ↔ AreDisjoint (values_of pairs) hidden
first_captured_target-none pairs hidden = (no_first hidden (values_of pairs), first_is_none hidden (values_of pairs))

-- as the program tells it
pub none_where_disjoint : (pairs : Pairs) (hidden : List Channel) (o : Option (Bor (List ℕ))) → option_copied o ≡ first_captured_target pairs hidden → (o ≡ None) ↔ AreDisjoint (values_of pairs) hidden
none_where_disjoint pairs hidden None is =
    (λ _. (first_captured_target-none pairs hidden).0 (sym is), λ _. refl)
none_where_disjoint pairs hidden (Some name) is =
    (λ none. cc, λ disjoint. let none : Some name.now ≡ None = is ∙ (first_captured_target-none pairs hidden).1 disjoint in cc)

-- the rest of the pairs, from the one that is looked at
target-drop : (hidden : List Channel) (pairs : Pairs) (n : ℕ) (pair : Channel × Channel) (b : Bool) → n < length pairs → get_or pairs n pair ≡ pair → has hidden pair.1 ≡ b → first_captured_target (drop n pairs) hidden ≡ slice_get (if b then (pair.1 ∷ filter (has hidden) (values_of (drop (n + 1) pairs))) else filter (has hidden) (values_of (drop (n + 1) pairs))) 0
target-drop hidden pairs n pair b within at is =
    at_drop_more (λ list. first_captured_target list hidden) pairs n pair within
    ∙ ap (λ p. first_captured_target (p ∷ drop (n + 1) pairs) hidden) at
    ∙ ap (λ t. slice_get (if t then (pair.1 ∷ filter (has hidden) (values_of (drop (n + 1) pairs))) else filter (has hidden) (values_of (drop (n + 1) pairs))) 0) is

pub target_here : (hidden : List Channel) (pairs : Pairs) (n : ℕ) (pair : Channel × Channel) → n < length pairs → get_or pairs n pair ≡ pair → has hidden pair.1 ≡ true → first_captured_target pairs hidden ≡ first_captured_target (drop n pairs) hidden → Some pair.1 ≡ first_captured_target pairs hidden
target_here hidden pairs n pair within at there same = sym (same ∙ target-drop hidden pairs n pair true within at there)

pub target_later : (hidden : List Channel) (pairs : Pairs) (n : ℕ) (pair : Channel × Channel) → n < length pairs → get_or pairs n pair ≡ pair → has hidden pair.1 ≡ false → first_captured_target pairs hidden ≡ first_captured_target (drop n pairs) hidden → first_captured_target pairs hidden ≡ first_captured_target (drop (n + 1) pairs) hidden
target_later hidden pairs n pair within at absent same = same ∙ target-drop hidden pairs n pair false within at absent

pub no_target : (hidden : List Channel) (pairs : Pairs) (n : ℕ) → length pairs ≤ n → first_captured_target pairs hidden ≡ first_captured_target (drop n pairs) hidden → None ≡ first_captured_target pairs hidden
no_target hidden pairs n past same = sym (same ∙ ap (λ list. first_captured_target list hidden) (drop_all n pairs past))

-- ---- names that are kept

-- the new name at a place where the channel is not hidden
pub new_name_here : (kept : Channel → Bool) (pairs : Pairs) (c name : Channel) → kept c ≡ false → Some name ≡ new_name pairs c → name ≡ keeping_all kept (renaming_of pairs) c
new_name_here kept pairs c name free is = name_there pairs c name is ∙ sym (ap (λ b. if b then c else renaming_of pairs c) free)

pub own_name_here : (kept : Channel → Bool) (pairs : Pairs) (c : Channel) → kept c ≡ false → None ≡ new_name pairs c → c ≡ keeping_all kept (renaming_of pairs) c
own_name_here kept pairs c free is = name_kept pairs c is ∙ sym (ap (λ b. if b then c else renaming_of pairs c) free)

-- the name of a hidden channel is kept
pub kept_name_here : (kept : Channel → Bool) (pairs : Pairs) (c : Channel) → kept c ≡ true → c ≡ keeping_all kept (renaming_of pairs) c
kept_name_here kept pairs c hidden = sym (ap (λ b. if b then c else renaming_of pairs c) hidden)

-- one hidden channel more
pub keeping_all-entered : (name : Channel) (before entered : Channel → Bool) (f : Renaming) → ((c : Channel) → entered c ≡ (same_channel name c || before c)) → keeping_all entered f ≡ keeping name (keeping_all before f)
keeping_all-entered name before entered f put = fun_ext (λ c. ap (λ b. if b then c else f c) (put c) ∙ go c (same_channel name c))
  where
    go : (c : Channel) (p : Bool) → (if p || before c then c else f c) ≡ (if p then c else (if before c then c else f c))
    go c true = refl
    go c false = refl

-- no hidden channel
pub keeping_all-none : (kept : Channel → Bool) (f : Renaming) → ((c : Channel) → kept c ≡ false) → keeping_all kept f ≡ f
keeping_all-none kept f none = fun_ext (λ c. ap (λ b. if b then c else f c) (none c))

-- the set before a name was added, where it is taken out again
pub left_again : (name : Channel) (added : Bool) (before entered inner after : Channel → Bool) → added ≡ not (before name) → ((c : Channel) → entered c ≡ (same_channel name c || before c)) → inner ≡ entered → ((c : Channel) → after c ≡ (if added && same_channel name c then false else inner c)) → after ≡ before
left_again name added before entered inner after was put same out = fun_ext (λ c.
    out c
    ∙ ap (λ g. if added && same_channel name c then false else g c) same
    ∙ ap (λ b. if added && same_channel name c then false else b) (put c)
    ∙ ap (λ a. if a && same_channel name c then false else (same_channel name c || before c)) was
    ∙ go c (same_channel name c) refl (before name) refl)
  where
    go : (c : Channel) (p : Bool) → same_channel name c ≡ p → (b : Bool) → before name ≡ b → (if not b && p then false else (p || before c)) ≡ before c
    go c true named true is = sym is ∙ ap before (same_channel-sound name c named)
    go c true named false is = sym is ∙ ap before (same_channel-sound name c named)
    go c false named true is = refl
    go c false named false is = refl
