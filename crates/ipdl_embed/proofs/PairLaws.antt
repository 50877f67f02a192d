-- Pairs of a channel and its new name, one more of them, and the tables that find them.
use Rattle.std.proofs.Common.{◌≡◌, Bool, true, false, ◌||◌, if◌then◌else◌, List, [], ◌∷◌, ◌++◌, Option, Some, None, is_some, refl, sym, ap, ◌∙◌, subst}
use Rattle.std.specs.Prelude.{bytes_eq}
use Rattle.std.specs.List.{AllByRecursion, IsDistinct}
use Rattle.std.specs.Map.{keys_of, values_of}
use Rattle.std.proofs.lemmas.Bool.{false≢true}
use Rattle.std.proofs.lemmas.List.{map_push}
use Rattle.ipdl_term.specs.Channels.{same_channel, has}
use Rattle.ipdl_term.specs.Terms.{Channel}
use Rattle.ipdl_term.proofs.ChannelSets.{same_channel-sound, same_channel-itself, bytes_eq-same_channel}
use Rattle.ipdl_embed.specs.Pairs.{Pairs, new_name, turned, old_name}
use Rattle.ipdl_embed.specs.Tables.{IsIndexed}

-- ---- tests

-- cases by a test
pub by_test : {P : Type 0} (b : Bool) → (b ≡ true → P) → (b ≡ false → P) → P
by_test true f g = f refl
by_test false f g = g refl

-- both parts of a test that is false
pub or_false_left : (a b : Bool) → (a || b) ≡ false → a ≡ false
or_false_left true b h = absurd (false≢true (sym h))
or_false_left false b h = refl

pub or_false_right : (a b : Bool) → (a || b) ≡ false → b ≡ false
or_false_right true b h = absurd (false≢true (sym h))
or_false_right false b h = h

-- ---- one pair more

-- the new name, where the last pair is for a new channel
pub new_name-push : (pairs : Pairs) (a b c : Channel) → has (keys_of pairs) a ≡ false → new_name (pairs ++ (a, b) ∷ []) c ≡ (if same_channel a c then Some b else new_name pairs c)
new_name-push [] a b c new = refl
new_name-push (pair ∷ pairs) a b c new =
    go (same_channel pair.0 c) (same_channel a c) refl refl (new_name-push pairs a b c (or_false_right (same_channel pair.0 a) (has (keys_of pairs) a) new))
  where
    go : (p q : Bool) → same_channel pair.0 c ≡ p → same_channel a c ≡ q → new_name (pairs ++ (a, b) ∷ []) c ≡ (if same_channel a c then Some b else new_name pairs c) → (if p then Some pair.1 else new_name (pairs ++ (a, b) ∷ []) c) ≡ (if q then Some b else (if p then Some pair.1 else new_name pairs c))
    go true true e f rest =
        let different : same_channel pair.0 a ≡ false = or_false_left (same_channel pair.0 a) (has (keys_of pairs) a) new in
        let same : pair.0 ≡ a = same_channel-sound pair.0 c e ∙ sym (same_channel-sound a c f) in
        absurd (false≢true (sym different ∙ ap (same_channel pair.0) (sym same) ∙ same_channel-itself pair.0))
    go true false e f rest = refl
    go false true e f rest = rest ∙ ap (λ t. if t then Some b else new_name pairs c) f
    go false false e f rest = rest ∙ ap (λ t. if t then Some b else new_name pairs c) f

-- a channel has a new name exactly where a pair is for it
pub is_some-new_name : (pairs : Pairs) (c : Channel) → is_some (new_name pairs c) ≡ has (keys_of pairs) c
is_some-new_name [] c = refl
is_some-new_name (pair ∷ pairs) c = go (same_channel pair.0 c) (is_some-new_name pairs c)
  where
    go : (b : Bool) → is_some (new_name pairs c) ≡ has (keys_of pairs) c → is_some (if b then Some pair.1 else new_name pairs c) ≡ (b || has (keys_of pairs) c)
    go true rest = refl
    go false rest = rest

pub keys_of-push : (pairs : Pairs) (a b : Channel) → keys_of (pairs ++ (a, b) ∷ []) ≡ keys_of pairs ++ a ∷ []
keys_of-push pairs a b = map_push (λ (pair : Channel × Channel). pair.0) pairs (a, b)

pub values_of-push : (pairs : Pairs) (a b : Channel) → values_of (pairs ++ (a, b) ∷ []) ≡ values_of pairs ++ b ∷ []
values_of-push pairs a b = map_push (λ (pair : Channel × Channel). pair.1) pairs (a, b)

pub turned-push : (pairs : Pairs) (a b : Channel) → turned (pairs ++ (a, b) ∷ []) ≡ turned pairs ++ (b, a) ∷ []
turned-push pairs a b = map_push (λ (pair : Channel × Channel). (pair.1, pair.0)) pairs (a, b)

pub keys_of-turned : (pairs : Pairs) → keys_of (turned pairs) ≡ values_of pairs
keys_of-turned [] = refl
keys_of-turned (pair ∷ pairs) = ap (λ ds. pair.1 ∷ ds) (keys_of-turned pairs)

-- it is a new name exactly where a channel has it
pub is_some-old_name : (pairs : Pairs) (d : Channel) → is_some (old_name pairs d) ≡ has (values_of pairs) d
is_some-old_name pairs d = is_some-new_name (turned pairs) d ∙ ap (λ ds. has ds d) (keys_of-turned pairs)

-- a channel more that is no member
AllByRecursion-push : (c d : Channel) (cs : List Channel) → AllByRecursion (λ e. same_channel c e ≡ false) cs → same_channel c d ≡ false → AllByRecursion (λ e. same_channel c e ≡ false) (cs ++ d ∷ [])
AllByRecursion-push c d [] all last = (last, tt)
AllByRecursion-push c d (e ∷ cs) all last = (all.0, AllByRecursion-push c d cs all.1 last)

pub IsDistinct-push : (cs : List Channel) (d : Channel) → IsDistinct same_channel cs → has cs d ≡ false → IsDistinct same_channel (cs ++ d ∷ [])
unfolding IsDistinct
IsDistinct-push [] d distinct new = (tt, tt)
IsDistinct-push (c ∷ cs) d distinct new = (
  AllByRecursion-push c d cs distinct.0 (or_false_left (same_channel c d) (has cs d) new),
  IsDistinct-push cs d distinct.1 (or_false_right (same_channel c d) (has cs d) new),
)

-- ---- the tables

-- a table with an entry more
pub found-push : (pairs : Pairs) (old new : Channel → Option Channel) (a b : Channel) → ((c : Channel) → old c ≡ new_name pairs c) → has (keys_of pairs) a ≡ false → ((c : Channel) → new c ≡ (if bytes_eq a c then Some b else old c)) → (c : Channel) → new c ≡ new_name (pairs ++ (a, b) ∷ []) c
found-push pairs old new a b finds fresh put c =
    put c
    ∙ ap (λ t. if t then Some b else old c) (bytes_eq-same_channel a c)
    ∙ ap (λ o. if same_channel a c then Some b else o) (finds c)
    ∙ sym (new_name-push pairs a b c fresh)

-- the tables of no pair
pub IsIndexed-none : IsIndexed [] (λ c. None) (λ d. None)
unfolding IsDistinct
IsIndexed-none = record { finds = λ c. refl; finds_back = λ d. refl; each_once = tt; distinct = tt }

-- the tables with a pair more
pub IsIndexed-push : (pairs more : Pairs) (targets targets' sources sources' : Channel → Option Channel) (a b : Channel) → IsIndexed pairs targets sources → has (keys_of pairs) a ≡ false → has (values_of pairs) b ≡ false → more ≡ pairs ++ (a, b) ∷ [] →
    ((c : Channel) → targets' c ≡ (if bytes_eq a c then Some b else targets c)) → ((c : Channel) → sources' c ≡ (if bytes_eq b c then Some a else sources c)) → IsIndexed more targets' sources'
IsIndexed-push pairs more targets targets' sources sources' a b indexed other free is put put_back =
    subst (λ list. IsIndexed list targets' sources') (sym is) (record {
      finds = found-push pairs targets targets' a b indexed.finds other put;
      finds_back = λ d. found-push (turned pairs) sources sources' b a indexed.finds_back (ap (λ ds. has ds b) (keys_of-turned pairs) ∙ free) put_back d ∙ ap (λ list. new_name list d) (sym (turned-push pairs a b));
      each_once = subst (IsDistinct same_channel) (sym (keys_of-push pairs a b)) (IsDistinct-push (keys_of pairs) a indexed.each_once other);
      distinct = subst (IsDistinct same_channel) (sym (values_of-push pairs a b)) (IsDistinct-push (values_of pairs) b indexed.distinct free);
    })
