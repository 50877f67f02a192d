-- Cases by a test, and the laws of sets of channels.
use Rattle.std.proofs.Common.{◌≡◌, ◌≢◌, Bool, true, false, ◌||◌, List, [], ◌∷◌, refl, sym, ap, ◌∙◌, subst}
use Rattle.std.proofs.lemmas.Bool.{or_left, or_right, or_parts, or_from, and_parts}
use Rattle.std.specs.Prelude.{if◌then◌else◌}
use Rattle.ipdl_term.specs.Channels.{same_channel, has, without, union, intersection, SameSet, AreDisjoint}
use Rattle.ipdl_term.specs.Terms.{Channel}
use Rattle.ipdl_term.proofs.ChannelSets.{same_channel-sound, same_channel-itself, same_channel_comm, has-union}
use Rattle.ipdl_term.proofs.ChannelSets as Members

-- ---- tests

-- cases by a test
pub by_test : {P : Type 0} (b : Bool) → (b ≡ true → P) → (b ≡ false → P) → P
by_test true f g = f refl
by_test false f g = g refl

-- a choice by a test that is true
pub if-true : {X : Type 0} (b : Bool) (x y : X) → b ≡ true → (if b then x else y) ≡ x
if-true b x y e = rw e

-- a choice by a test that is false
pub if-false : {X : Type 0} (b : Bool) (x y : X) → b ≡ false → (if b then x else y) ≡ y
if-false b x y e = rw e

-- two choices by one test that agree where they are taken
pub if_same : {X : Type 0} (b : Bool) (x x' y y' : X) → (b ≡ true → x ≡ x') → (b ≡ false → y ≡ y') → (if b then x else y) ≡ (if b then x' else y')
if_same true x x' y y' h k = h refl
if_same false x x' y y' h k = k refl

-- a test is not both
pub not_both : {P : Type 0} (b : Bool) → b ≡ true → b ≡ false → P
not_both b e k = let l : true ≡ false = sym e ∙ k in cc

-- tests that each follow from the other
pub test_same : (a b : Bool) → (a ≡ true → b ≡ true) → (b ≡ true → a ≡ true) → a ≡ b
test_same true b h k = sym (h refl)
test_same false true h k = k refl
test_same false false h k = refl

-- the order of two tests
pub or_comm : (a b : Bool) → (a || b) ≡ (b || a)
or_comm true true = refl
or_comm true false = refl
or_comm false true = refl
or_comm false false = refl

-- the grouping of three tests
pub or_assoc : (a b c : Bool) → (a || (b || c)) ≡ ((a || b) || c)
or_assoc true b c = refl
or_assoc false b c = refl

-- ---- one channel

-- the order of two different channels
pub same_channel-false_swap : (c d : Channel) → same_channel c d ≡ false → same_channel d c ≡ false
same_channel-false_swap c d h = same_channel_comm d c ∙ h

-- channels that differ are told apart
pub same_channel-different : (c d : Channel) → c ≢ d → same_channel c d ≡ false
same_channel-different c d h = by_test (same_channel c d) (λ e. absurd (h (same_channel-sound c d e))) (λ e. e)

-- a fact on one channel holds of the other where they are the same
pub at_same_channel : (P : Channel → Type 0) (c d : Channel) → same_channel c d ≡ true → P c → P d
at_same_channel P c d e h = subst P (same_channel-sound c d e) h

-- a set of one channel
pub has-single : (c d : Channel) → has (c ∷ []) d ≡ same_channel c d
has-single c d = by_test (same_channel c d) (λ e. rw e) (λ e. rw e)

-- ---- sets

-- a channel of the first is in the union
pub in_union_left : (cs ds : List Channel) (c : Channel) → has cs c ≡ true → has (union cs ds) c ≡ true
in_union_left cs ds c h = has-union cs ds c ∙ or_left (has cs c) (has ds c) h

-- a channel of the second is in the union
pub in_union_right : (cs ds : List Channel) (c : Channel) → has ds c ≡ true → has (union cs ds) c ≡ true
in_union_right cs ds c h = has-union cs ds c ∙ or_right (has cs c) (has ds c) h

-- a channel of a union that is not in the first is in the second
pub in_second : (cs ds : List Channel) (c : Channel) → has (union cs ds) c ≡ true → has cs c ≡ false → has ds c ≡ true
in_second cs ds c h e = sym (ap (λ b. b || has ds c) e) ∙ sym (has-union cs ds c) ∙ h

-- a channel that is in neither of two sets is not in their union
pub not_in_union : (cs ds : List Channel) (c : Channel) → has cs c ≡ false → has ds c ≡ false → has (union cs ds) c ≡ false
not_in_union cs ds c h k = has-union cs ds c ∙ or_from (has cs c) (has ds c) h k

-- and the other way round
pub in_neither : (cs ds : List Channel) (c : Channel) → has (union cs ds) c ≡ false → (has cs c ≡ false) × (has ds c ≡ false)
in_neither cs ds c h = or_parts (has cs c) (has ds c) (sym (has-union cs ds c) ∙ h)

-- a channel of an intersection is in both
pub has-intersection : (cs ds : List Channel) (e : Channel) → has (intersection cs ds) e ≡ true → (has cs e ≡ true) × (has ds e ≡ true)
has-intersection cs ds e h = and_parts (has cs e) (has ds e) (sym (Members.has-intersection cs ds e) ∙ h)

-- at another channel nothing is taken out
pub has-without : (c : Channel) (cs : List Channel) (e : Channel) → same_channel c e ≡ false → has (without c cs) e ≡ has cs e
has-without c cs e h = Members.has-without c cs e ∙ if-false (same_channel c e) false (has cs e) h

-- the channel is taken out, under another name too
pub has-without_same : (c : Channel) (cs : List Channel) (d : Channel) → same_channel c d ≡ true → has (without c cs) d ≡ false
has-without_same c cs d e = Members.has-without c cs d ∙ if-true (same_channel c d) false (has cs d) e

-- the channel itself is taken out
pub has-without_self : (c : Channel) (cs : List Channel) → has (without c cs) c ≡ false
has-without_self c cs = has-without_same c cs c (same_channel-itself c)

-- ---- equal and disjoint sets

-- a union with an equal set in front
pub union_same_left : (cs cs' ds : List Channel) → SameSet cs cs' → SameSet (union cs ds) (union cs' ds)
union_same_left cs cs' ds h c = has-union cs ds c ∙ ap (λ b. b || has ds c) (h c) ∙ sym (has-union cs' ds c)

-- a union with an equal set behind
pub union_same_right : (cs ds ds' : List Channel) → SameSet ds ds' → SameSet (union cs ds) (union cs ds')
union_same_right cs ds ds' h c = has-union cs ds c ∙ ap (λ b. has cs c || b) (h c) ∙ sym (has-union cs ds' c)

-- the order of a union
pub union_comm : (cs ds : List Channel) → SameSet (union cs ds) (union ds cs)
union_comm cs ds c = has-union cs ds c ∙ or_comm (has cs c) (has ds c) ∙ sym (has-union ds cs c)

-- the grouping of a union
pub union_assoc : (cs ds es : List Channel) → SameSet (union (union cs ds) es) (union cs (union ds es))
union_assoc cs ds es c =
    has-union (union cs ds) es c ∙ ap (λ b. b || has es c) (has-union cs ds c) ∙
    sym (has-union cs (union ds es) c ∙ ap (λ b. has cs c || b) (has-union ds es c) ∙ or_assoc (has cs c) (has ds c) (has es c))

-- equal sets without one channel
pub without_same : (c : Channel) (cs ds : List Channel) → SameSet cs ds → SameSet (without c cs) (without c ds)
without_same c cs ds h d = by_test (same_channel c d)
    (λ k. has-without_same c cs d k ∙ sym (has-without_same c ds d k))
    (λ k. has-without c cs d k ∙ h d ∙ sym (has-without c ds d k))

-- the order of two channels that a set is without
pub without_swap : (c d : Channel) (cs : List Channel) → SameSet (without c (without d cs)) (without d (without c cs))
without_swap c d cs e = by_test (same_channel c e)
    (λ k. has-without_same c (without d cs) e k ∙ sym (by_test (same_channel d e)
    (λ l. has-without_same d (without c cs) e l)
    (λ l. has-without d (without c cs) e l ∙ has-without_same c cs e k)))
    (λ k. has-without c (without d cs) e k ∙ by_test (same_channel d e)
    (λ l. has-without_same d cs e l ∙ sym (has-without_same d (without c cs) e l))
    (λ l. has-without d cs e l ∙ sym (has-without c cs e k) ∙ sym (has-without d (without c cs) e l)))

-- a set that equals one of two disjoint sets
pub AreDisjoint_same : (cs cs' ds : List Channel) → SameSet cs cs' → AreDisjoint cs ds → AreDisjoint cs' ds
AreDisjoint_same cs cs' ds h k c e = k c (h c ∙ e)

-- the order of two disjoint sets
pub AreDisjoint_swap : (cs ds : List Channel) → AreDisjoint cs ds → AreDisjoint ds cs
AreDisjoint_swap cs ds h c e = by_test (has cs c) (λ k. not_both (has ds c) e (h c k)) (λ k. k)

-- the parts of a union are disjoint from what the union is disjoint from
pub AreDisjoint-union : (cs ds es : List Channel) → AreDisjoint (union cs ds) es → AreDisjoint cs es × AreDisjoint ds es
AreDisjoint-union cs ds es h = (
  λ c e. h c (in_union_left cs ds c e),
  λ c e. h c (in_union_right cs ds c e),
)

-- a union of sets that are disjoint from a third
pub AreDisjoint_union : (cs ds es : List Channel) → AreDisjoint cs es → AreDisjoint ds es → AreDisjoint (union cs ds) es
AreDisjoint_union cs ds es h k c e = by_test (has cs c)
    (λ l. h c l)
    (λ l. k c (sym (ap (λ b. b || has ds c) l) ∙ sym (has-union cs ds c) ∙ e))
