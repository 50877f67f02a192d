-- Assignments by number, as channels of their own.
use Rattle.std.proofs.Common.{◌≡◌, ◌≢◌, ℕ, zero, suc, ◌+◌, ◌<◌, ◌≤◌, true, false, ◌||◌, List, [], ◌∷◌, length, Option, Some, None, is_some, refl, sym, ap, ap₂, ◌∙◌, subst, arith, eqb-true}
use Rattle.std.proofs.lemmas.Bool.{or_left, or_right, or_from}
use Rattle.std.proofs.lemmas.Bool.Decides.{nat_tests}
use Rattle.std.specs.Prelude.{nat_eq}
use Rattle.ipdl_term.specs.Channels.{same_channel, has, AreDisjoint, outputs}
use Rattle.ipdl_term.specs.Terms.{Channel, Protocol, nil, assignment, parallel, hiding}
use Rattle.ipdl_term.specs.Variables.{first_number}
use Rattle.ipdl_term.specs.Networks.{assignment_count, writer_number}
use Rattle.ipdl_term.proofs.ChannelSets.{same_channel-sound, has-union}
use Rattle.ipdl_laws.proofs.Sets.{by_test, if-true, if-false, not_both, or_assoc, has-without, has-without_same}

-- the channel of a number
abbrev pub key : ℕ → Channel
key k = k ∷ []

-- the channels of the numbers from this one on
abbrev pub keys : ℕ → ℕ → List Channel
keys n zero = []
keys n (suc a) = key n ∷ keys (suc n) a

-- as many as there are numbers
pub length-keys : (n a : ℕ) → length (keys n a) ≡ a
length-keys n zero = refl
length-keys n (suc a) = ap suc (length-keys (suc n) a)

-- the test of two numbers
nat_eq-true : (m k : ℕ) → m ≡ k → nat_eq m k ≡ true
nat_eq-true m k h = grind (arith, nat_tests)

nat_eq-false : (m k : ℕ) → (m ≡ k → ⊥) → nat_eq m k ≡ false
nat_eq-false m k h = grind (arith, nat_tests)

-- a number is its own
pub nat_eq_self : (k : ℕ) → nat_eq k k ≡ true
nat_eq_self k = nat_eq-true k k refl

-- the channels of two numbers
same_channel-key : (m k : ℕ) → same_channel (key m) (key k) ≡ nat_eq m k
same_channel-key m k = by_test (nat_eq m k) (λ e. rw e) (λ e. rw e)

-- a channel of the numbers is that of one of them
key_of : (n a : ℕ) (d : Channel) → has (keys n a) d ≡ true → (k : ℕ) × (d ≡ key k) × (n ≤ k) × (k < n + a)
key_of n zero d h = cc
key_of n (suc a) d h = by_test (same_channel (key n) d)
    (λ e. (n, sym (same_channel-sound (key n) d e), omega arith, omega arith))
    (λ e. let k = key_of (suc n) a d (sym (ap (λ b. b || has (keys (suc n) a) d) e) ∙ h) in (k.0, k.1, omega (arith, k.2), omega (arith, k.3)))

-- a number among them
pub has-keys : (n a k : ℕ) → n ≤ k → k < n + a → has (keys n a) (key k) ≡ true
has-keys n zero k h l = absurd (omega arith)
has-keys n (suc a) k h l = by_test (nat_eq n k)
    (λ e. or_left (same_channel (key n) (key k)) (has (keys (suc n) a) (key k)) (same_channel-key n k ∙ e))
    (λ e. or_right (same_channel (key n) (key k)) (has (keys (suc n) a) (key k)) (has-keys (suc n) a k (past e) (omega arith)))
  where
    past : nat_eq n k ≡ false → suc n ≤ k
    past e = let differ : n ≢ k = λ x. not_both (nat_eq n k) (nat_eq-true n k x) e in omega arith

-- a number below them
has-keys_below : (n a k : ℕ) → k < n → has (keys n a) (key k) ≡ false
has-keys_below n zero k h = refl
has-keys_below n (suc a) k h =
    let differ : n ≡ k → ⊥ = λ x. omega arith in
    or_from (same_channel (key n) (key k)) (has (keys (suc n) a) (key k)) (same_channel-key n k ∙ nat_eq-false n k differ) (has-keys_below (suc n) a k (omega arith))

-- a number above them
pub has-keys_above : (n a k : ℕ) → n + a ≤ k → has (keys n a) (key k) ≡ false
has-keys_above n a k h = by_test (has (keys n a) (key k))
    (λ e. let own = key_of n a (key k) e in let same : k ≡ own.0 = cc (own.1) in absurd (omega (arith, own.3, same)))
    (λ e. e)

-- the numbers of the first and then those of the second
pub has-keys_add : (n a b : ℕ) (d : Channel) → has (keys n (a + b)) d ≡ (has (keys n a) d || has (keys (n + a) b) d)
has-keys_add n zero b d = let z : zero + b ≡ b = omega arith in let y : n + zero ≡ n = omega arith in rw (z, y)
has-keys_add n (suc a) b d =
    let z : suc a + b ≡ suc (a + b) = omega arith in
    let y : n + suc a ≡ suc n + a = omega arith in
    rw (z, y) (ap (λ t. same_channel (key n) d || t) (has-keys_add (suc n) a b d) ∙ or_assoc (same_channel (key n) d) (has (keys (suc n) a) d) (has (keys (suc n + a) b) d))

-- the numbers of the first are not among those of the second
pub AreDisjoint-keys : (n a b : ℕ) → AreDisjoint (keys n a) (keys (n + a) b)
AreDisjoint-keys n a b d h =
    let k = key_of n a d h in
    ap (has (keys (n + a) b)) k.1 ∙ has-keys_below (n + a) b k.0 k.3

-- numbers of disjoint sets differ
pub nat_eq_apart : (cs ds : List Channel) (m k : ℕ) → AreDisjoint cs ds → has cs (key k) ≡ true → has ds (key m) ≡ true → nat_eq m k ≡ false
nat_eq_apart cs ds m k apart h l = by_test (nat_eq m k)
    (λ e. not_both (has ds (key m)) l (subst (λ x. has ds (key x) ≡ false) (sym (eqb-true m k e)) (apart (key k) h)))
    (λ e. e)

-- ---- writers

-- an output has a writer, and nothing else has
pub is_some-writer_number : (p : Protocol) (n : ℕ) (c : Channel) → is_some (writer_number p n c) ≡ has (outputs p) c
is_some-writer_number nil n c = refl
is_some-writer_number (assignment d r) n c = by_test (same_channel d c) (λ e. rw e) (λ e. rw e)
is_some-writer_number (parallel p q) n c =
    is_some-first_number (writer_number p n c) (writer_number q (n + assignment_count p) c) ∙
    ap₂ (λ a b. a || b) (is_some-writer_number p n c) (is_some-writer_number q (n + assignment_count p) c) ∙
    sym (has-union (outputs p) (outputs q) c)
  where
    is_some-first_number : (a b : Option ℕ) → is_some (first_number a b) ≡ (is_some a || is_some b)
    is_some-first_number None b = refl
    is_some-first_number (Some m) b = refl
is_some-writer_number (hiding d w p) n c = by_test (same_channel d c)
    (λ e. ap is_some (if-true (same_channel d c) _ _ e) ∙ sym (has-without_same d (outputs p) c e))
    (λ e. ap is_some (if-false (same_channel d c) _ _ e) ∙ is_some-writer_number p n c ∙ sym (has-without d (outputs p) c e))

-- nothing that is not there is some
none_of : (o : Option ℕ) → is_some o ≡ false → o ≡ None
none_of None h = refl
none_of (Some m) h = cc

-- where there is no output there is no writer
pub writer_number_none : (p : Protocol) (n : ℕ) (c : Channel) → has (outputs p) c ≡ false → writer_number p n c ≡ None
writer_number_none p n c h = none_of (writer_number p n c) (is_some-writer_number p n c ∙ h)

-- a writer is one of the protocol's own numbers
pub writer_number_own : (p : Protocol) (n : ℕ) (c : Channel) (m : ℕ) → writer_number p n c ≡ Some m → has (keys n (assignment_count p)) (key m) ≡ true
writer_number_own nil n c m h = cc
writer_number_own (assignment d r) n c m h = by_test (same_channel d c)
    (λ e. let k : Some n ≡ Some m = sym (if-true (same_channel d c) _ _ e) ∙ h in let l : n ≡ m = cc in has-keys n 1 m (omega arith) (omega arith))
    (λ e. let k : None ≡ Some m = sym (if-false (same_channel d c) _ _ e) ∙ h in cc)
writer_number_own (parallel p q) n c m h =
    has-keys_add n (assignment_count p) (assignment_count q) (key m) ∙
    go (writer_number p n c) refl h (writer_number_own p n c m) (writer_number_own q (n + assignment_count p) c m)
  where
    go : (o : Option ℕ) → writer_number p n c ≡ o → first_number o (writer_number q (n + assignment_count p) c) ≡ Some m → (writer_number p n c ≡ Some m → has (keys n (assignment_count p)) (key m) ≡ true) →
        (writer_number q (n + assignment_count p) c ≡ Some m → has (keys (n + assignment_count p) (assignment_count q)) (key m) ≡ true) → (has (keys n (assignment_count p)) (key m) || has (keys (n + assignment_count p) (assignment_count q)) (key m)) ≡ true
    go None e k own_p own_q = or_right (has (keys n (assignment_count p)) (key m)) (has (keys (n + assignment_count p) (assignment_count q)) (key m)) (own_q k)
    go (Some x) e k own_p own_q = or_left (has (keys n (assignment_count p)) (key m)) (has (keys (n + assignment_count p) (assignment_count q)) (key m)) (own_p (e ∙ k))
writer_number_own (hiding d w p) n c m h = by_test (same_channel d c)
    (λ e. let k : None ≡ Some m = sym (if-true (same_channel d c) _ _ e) ∙ h in cc)
    (λ e. writer_number_own p n c m (sym (if-false (same_channel d c) _ _ e) ∙ h))
