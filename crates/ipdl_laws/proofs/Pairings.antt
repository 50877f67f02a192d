-- Pairings: relations of the channels of one term with those of another that say which stands for which.
use Rattle.std.proofs.Common.{◌≡◌, Bool, true, false, ◌||◌, List, [], ◌∷◌, length, refl, sym, ap, ap₂, ◌∙◌, subst}
use Rattle.std.proofs.lemmas.Bool.{or_left, or_right}
use Rattle.std.specs.Prelude.{if◌then◌else◌}
use Rattle.ipdl_term.specs.Channels.{same_channel, has, without, union, AreDisjoint}
use Rattle.ipdl_term.specs.Terms.{Channel}
use Rattle.ipdl_term.proofs.ChannelSets.{same_channel-sound, same_channel-itself, same_channel_comm}
use Rattle.ipdl_laws.proofs.Sets.{by_test, test_same}

-- which channel of the one term stands for which of the other
abbrev pub Pairing : Type 1
Pairing = Channel → Channel → Type 0

-- each channel stands for one alone
abbrev pub IsOneToOne : Pairing → Type 0
IsOneToOne R = (c c' d d' : Channel) → R c c' → R d d' → same_channel c d ≡ same_channel c' d'

-- below two hidden channels: these stand for one another, and the others as before
abbrev pub below : Channel → Channel → Pairing → Pairing
below c c' R d d' = (same_channel c d ≡ same_channel c' d') × (same_channel c d ≡ false → R d d')

-- where a channel is the same as another, tests of it are tests of the other
test_of_same : (c d e : Channel) → same_channel c d ≡ true → same_channel d e ≡ same_channel c e
test_of_same c d e h = ap (λ x. same_channel x e) (sym (same_channel-sound c d h))

-- a renaming that takes two channels to one only if they are one keeps the test of them
pub same_channel-image : (f : Channel → Channel) (c d : Channel) → (f c ≡ f d → c ≡ d) → same_channel c d ≡ same_channel (f c) (f d)
same_channel-image f c d injective = test_same (same_channel c d) (same_channel (f c) (f d))
    (λ e. ap (same_channel (f c)) (sym (ap f (same_channel-sound c d e))) ∙ same_channel-itself (f c))
    (λ e. ap (same_channel c) (sym (injective (same_channel-sound (f c) (f d) e))) ∙ same_channel-itself c)

pub IsOneToOne-below : (R : Pairing) (c c' : Channel) → IsOneToOne R → IsOneToOne (below c c' R)
IsOneToOne-below R c c' one d d' e e' h k = by_test (same_channel c d)
    (λ l. test_of_same c d e l ∙ k.0 ∙ sym (test_of_same c' d' e' (sym h.0 ∙ l)))
    (λ l. by_test (same_channel c e)
    (λ m. same_channel_comm d e ∙ test_of_same c e d m ∙ h.0 ∙ sym (test_of_same c' e' d' (sym k.0 ∙ m)) ∙ same_channel_comm e' d')
    (λ m. one d d' e e' (h.1 l) (k.1 m)))

-- ---- lists

-- lists whose channels stand for one another, each for the one at its place
abbrev pub SameNames : Pairing → List Channel → List Channel → Type 0
SameNames R [] [] = Unit {0}
SameNames R (c ∷ cs) (c' ∷ cs') = R c c' × SameNames R cs cs'
SameNames R _ _ = ⊥

-- the same members
pub SameNames-has : (R : Pairing) → IsOneToOne R → (cs cs' : List Channel) → SameNames R cs cs' → (d d' : Channel) → R d d' → has cs d ≡ has cs' d'
SameNames-has R one [] [] h d d' k = refl
SameNames-has R one (c ∷ cs) (c' ∷ cs') h d d' k = ap₂ ◌||◌ (one c c' d d' h.0 k) (SameNames-has R one cs cs' h.1 d d' k)
SameNames-has R one _ _ h d d' k = absurd h

-- a member of the second list is one of the first
pub SameNames-member : (R : Pairing) → IsOneToOne R → (cs cs' : List Channel) → SameNames R cs cs' → (d' : Channel) → has cs' d' ≡ true → (d : Channel) × R d d' × (has cs d ≡ true)
SameNames-member R one [] [] h d' k = cc
SameNames-member R one (c ∷ cs) (c' ∷ cs') h d' k = by_test (same_channel c' d')
    (λ l. (c, subst (R c) (same_channel-sound c' d' l) h.0, or_left (same_channel c c) (has cs c) (same_channel-itself c)))
    (λ l. let later = SameNames-member R one cs cs' h.1 d' (sym (ap (λ b. b || has cs' d') l) ∙ k) in
    (later.0, later.1, or_right (same_channel c later.0) (has cs later.0) later.2))
SameNames-member R one _ _ h d' k = absurd h

-- the same length
pub SameNames-length : (R : Pairing) (cs cs' : List Channel) → SameNames R cs cs' → length cs ≡ length cs'
SameNames-length R [] [] h = refl
SameNames-length R (c ∷ cs) (c' ∷ cs') h = rw (SameNames-length R cs cs' h.1)
SameNames-length R _ _ h = absurd h

-- the other way round
pub SameNames-turned : (R S : Pairing) → ((c c' : Channel) → R c c' → S c' c) → (cs cs' : List Channel) → SameNames R cs cs' → SameNames S cs' cs
SameNames-turned R S turn [] [] h = tt
SameNames-turned R S turn (c ∷ cs) (c' ∷ cs') h = (turn c c' h.0, SameNames-turned R S turn cs cs' h.1)
SameNames-turned R S turn _ _ h = absurd h

-- the unions
pub SameNames-union : (R : Pairing) → IsOneToOne R → (cs cs' ds ds' : List Channel) → SameNames R cs cs' → SameNames R ds ds' → SameNames R (union cs ds) (union cs' ds')
SameNames-union R one [] [] ds ds' h k = k
SameNames-union R one (c ∷ cs) (c' ∷ cs') ds ds' h k =
    go (has ds c) (has ds' c') (SameNames-has R one ds ds' k c c' h.0) (SameNames-union R one cs cs' ds ds' h.1 k)
  where
    go : (b b' : Bool) → b ≡ b' → SameNames R (union cs ds) (union cs' ds') → SameNames R (if b then union cs ds else (c ∷ union cs ds)) (if b' then union cs' ds' else (c' ∷ union cs' ds'))
    go true true e i = i
    go false false e i = (h.0, i)
    go true false e i = cc
    go false true e i = cc
SameNames-union R one _ _ ds ds' h k = absurd h

-- without the hidden channels
pub SameNames-without : (R : Pairing) (c c' : Channel) (ds ds' : List Channel) → SameNames (below c c' R) ds ds' → SameNames R (without c ds) (without c' ds')
SameNames-without R c c' [] [] h = tt
SameNames-without R c c' (d ∷ ds) (d' ∷ ds') h =
    go (same_channel c d) (same_channel c' d') h.0.0 h.0.1 (SameNames-without R c c' ds ds' h.1)
  where
    go : (b b' : Bool) → b ≡ b' → (b ≡ false → R d d') → SameNames R (without c ds) (without c' ds') → SameNames R (if b then without c ds else (d ∷ without c ds)) (if b' then without c' ds' else (d' ∷ without c' ds'))
    go true true e k i = i
    go false false e k i = (k refl, i)
    go true false e k i = cc
    go false true e k i = cc
SameNames-without R c c' _ _ h = absurd h

-- disjoint sets
pub AreDisjoint-paired : (R : Pairing) → IsOneToOne R → (cs cs' ds ds' : List Channel) → SameNames R cs cs' → SameNames R ds ds' → AreDisjoint cs ds → AreDisjoint cs' ds'
AreDisjoint-paired R one cs cs' ds ds' h k apart c' l =
    let c = SameNames-member R one cs cs' h c' l in
    sym (SameNames-has R one ds ds' k c.0 c' c.1) ∙ apart c.0 c.2
