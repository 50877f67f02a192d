-- Valuations that lie within one another, and how many of a set of channels they write.
use Rattle.std.proofs.Common.{◌≡◌, ℕ, ◌+◌, ◌≤◌, Bool, true, false, ◌||◌, List, [], ◌∷◌, length, Option, Some, None, is_some, refl, sym, subst, arith}
use Rattle.std.specs.Prelude.{if◌then◌else◌}
use mathlib.Core.Path.{fun_ext}
use Rattle.ipdl_term.specs.Channels.{same_channel, has}
use Rattle.ipdl_term.specs.Counts.{one_if}
use Rattle.ipdl_term.specs.Terms.{Value, Channel}
use Rattle.ipdl_term.specs.Valuations.{Valuation, nothing, combined, taken_out, all_taken_out, LiesWithin}
use Rattle.ipdl_term.proofs.ChannelSets.{same_channel-sound}

-- each valuation lies within itself
pub LiesWithin-refl : (p : Valuation) → LiesWithin p p
LiesWithin-refl p c v e = e

-- equal valuations lie within one another
pub LiesWithin_equal : (p q : Valuation) → p ≡ q → LiesWithin p q
LiesWithin_equal p q e = subst (λ x. LiesWithin p x) e (LiesWithin-refl p)

-- what lies within one that lies within a third lies within the third
pub LiesWithin-trans : (p q r : Valuation) → LiesWithin p q → LiesWithin q r → LiesWithin p r
LiesWithin-trans p q r h k c v e = k c v (h c v e)

-- nothing lies within each valuation
pub LiesWithin-nothing : (p : Valuation) → LiesWithin nothing p
LiesWithin-nothing p c v e = cc

-- two values that each imply the other
value_antisym : (o o' : Option Value) → ((v : Value) → o ≡ Some v → o' ≡ Some v) → ((v : Value) → o' ≡ Some v → o ≡ Some v) → o ≡ o'
value_antisym None None h k = refl
value_antisym None (Some v) h k = k v refl
value_antisym (Some v) o' h k = sym (h v refl)

-- valuations that lie within one another are equal
pub LiesWithin-antisym : (p q : Valuation) → LiesWithin p q → LiesWithin q p → p ≡ q
LiesWithin-antisym p q h k = fun_ext (λ c. value_antisym (p c) (q c) (h c) (k c))

-- a choice by a test keeps the order
pub if_grows : (b : Bool) (o o' u u' : Option Value) → ((v : Value) → o ≡ Some v → o' ≡ Some v) → ((v : Value) → u ≡ Some v → u' ≡ Some v) → (v : Value) → (if b then o else u) ≡ Some v → (if b then o' else u') ≡ Some v
if_grows true o o' u u' h k v e = h v e
if_grows false o o' u u' h k v e = k v e

-- a combination of two that grow
pub LiesWithin-combined : (cs : List Channel) (p p' q q' : Valuation) → LiesWithin p p' → LiesWithin q q' → LiesWithin (combined cs p q) (combined cs p' q')
LiesWithin-combined cs p p' q q' h k c v = if_grows (has cs c) (p c) (p' c) (q c) (q' c) (h c) (k c) v

-- more without one channel
pub LiesWithin-taken_out : (d : Channel) (p p' : Valuation) → LiesWithin p p' → LiesWithin (taken_out d p) (taken_out d p')
LiesWithin-taken_out d p p' h c v = if_grows (same_channel d c) None None (p c) (p' c) (λ v e. e) (h c) v

-- more without the channels of a set
pub LiesWithin-all_taken_out : (cs : List Channel) (p p' : Valuation) → LiesWithin p p' → LiesWithin (all_taken_out cs p) (all_taken_out cs p')
LiesWithin-all_taken_out cs p p' h c v = if_grows (has cs c) None None (p c) (p' c) (λ v e. e) (h c) v

-- written at no other channels
abbrev pub WritesOnly : List Channel → Valuation → Type 0
WritesOnly cs p = (c : Channel) → has cs c ≡ false → p c ≡ None

-- how many of the channels are written
abbrev pub written_count : List Channel → Valuation → ℕ
written_count [] p = 0
written_count (c ∷ cs) p = one_if (is_some (p c)) + written_count cs p

-- a test counts at most one
one_if_le : (b : Bool) → one_if b ≤ 1
one_if_le true = omega arith
one_if_le false = omega arith

-- no more channels are written than there are
pub written_count_le : (cs : List Channel) (p : Valuation) → written_count cs p ≤ length cs
written_count_le [] p = omega arith
written_count_le (c ∷ cs) p = omega (arith, one_if_le (is_some (p c)), written_count_le cs p)

-- a value that grows counts as much or more
one_if-is_some_grows : (o o' : Option Value) → ((v : Value) → o ≡ Some v → o' ≡ Some v) → one_if (is_some o) ≤ one_if (is_some o')
one_if-is_some_grows None None h = omega arith
one_if-is_some_grows None (Some v) h = omega arith
one_if-is_some_grows (Some v) o' h = rw (h v refl) (omega arith)

-- a value that grows and counts no more stays the same
value_same_of_count : (o o' : Option Value) → ((v : Value) → o ≡ Some v → o' ≡ Some v) → one_if (is_some o') ≤ one_if (is_some o) → o ≡ o'
value_same_of_count None None h k = refl
value_same_of_count None (Some v) h k = absurd (omega arith)
value_same_of_count (Some v) o' h k = sym (h v refl)

-- more channels are written where more is written
pub written_count_grows : (cs : List Channel) (p q : Valuation) → LiesWithin p q → written_count cs p ≤ written_count cs q
written_count_grows [] p q h = omega arith
written_count_grows (c ∷ cs) p q h = omega (arith, one_if-is_some_grows (p c) (q c) (h c), written_count_grows cs p q h)

-- of two valuations that write equally many of these channels the smaller is the larger there
pub value_same_of_written_count : (cs : List Channel) (p q : Valuation) → LiesWithin p q → written_count cs q ≤ written_count cs p → (c : Channel) → has cs c ≡ true → p c ≡ q c
value_same_of_written_count [] p q h k c i = cc
value_same_of_written_count (d ∷ cs) p q h k c i =
    let head = one_if-is_some_grows (p d) (q d) (h d) in
    let tail = written_count_grows cs p q h in
    let at_d = value_same_of_count (p d) (q d) (h d) (omega arith) in
    go (same_channel d c) refl i at_d (value_same_of_written_count cs p q h (omega arith) c)
  where
    go : (b : Bool) → same_channel d c ≡ b → (b || has cs c) ≡ true → p d ≡ q d → (has cs c ≡ true → p c ≡ q c) → p c ≡ q c
    go true e i at_d ih = subst (λ x. p x ≡ q x) (same_channel-sound d c e) at_d
    go false e i at_d ih = ih i
