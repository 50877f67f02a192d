-- A channel is read at one place alone exactly where it is read once.
use Rattle.std.proofs.Common.{◌≡◌, ◌↔◌, ℕ, zero, suc, ◌≤◌, false, List, [], ◌∷◌, Some, refl, sym, ap, ◌∙◌, arith}
use Rattle.std.proofs.lemmas.Bool.Decides.{nat_tests}
use Rattle.std.specs.Prelude.{nat_eq}
use Rattle.ipdl_term.specs.Channels.{same_channel, has, reads}
use Rattle.ipdl_term.specs.Places.{term_at}
use Rattle.ipdl_term.specs.Terms.{Channel, Reaction, returning, flipping, reading, branching, binding, reaction_term}
use Rattle.ipdl_laws.proofs.PlacedReactions.{none_in_expression}
use Rattle.ipdl_laws.proofs.Sets.{by_test, if-true, if-false, has-single, same_channel-false_swap, not_in_union}
use Rattle.ipdl_rules_p.specs.ReadPlaces.{IsReadAt, read_count}
use Rattle.ipdl_term.proofs.ChannelSets.{same_channel-itself, same_channel-sound}

-- lists of one head
later : (n : ℕ) (other place : List ℕ) → n ∷ other ≡ n ∷ place → other ≡ place
later n other place h = cc

-- lists of two heads
apart : (m n : ℕ) (other place : List ℕ) → m ∷ other ≡ n ∷ place → nat_eq m n ≡ false → ⊥
apart m n other place h differ = let e : m ≡ n = cc in grind (arith, nat_tests)

module _ (c : Channel) where
  -- a read of the channel counts
  pub read_count-itself : read_count c (reading c) ≡ 1
  read_count-itself = if-true (same_channel c c) 1 0 (same_channel-itself c)

  -- a place where it is read
  pub read_is_counted : (k : Reaction) (place : List ℕ) → IsReadAt c k place → 1 ≤ read_count c k
  read_is_counted k [] at = let e : k ≡ reading c = cc in let n : read_count c k ≡ 1 = ap (read_count c) e ∙ read_count-itself in omega arith
  read_is_counted (returning e) (zero ∷ place) at = absurd (none_in_expression e place (reading c) at)
  read_is_counted (branching e r s) (zero ∷ place) at = absurd (none_in_expression e place (reading c) at)
  read_is_counted (branching e r s) (suc zero ∷ place) at = let h = read_is_counted r place at in omega arith
  read_is_counted (branching e r s) (suc (suc zero) ∷ place) at = let h = read_is_counted s place at in omega arith
  read_is_counted (binding w r s) (zero ∷ place) at = let h = read_is_counted r place at in omega arith
  read_is_counted (binding w r s) (suc zero ∷ place) at = let h = read_is_counted s place at in omega arith
  read_is_counted _ _ at = cc

  -- a channel that is read nowhere is not counted
  pub unread_is_not_counted : (k : Reaction) → ((place : List ℕ) → IsReadAt c k place → ⊥) → read_count c k ≡ 0
  unread_is_not_counted (returning e) none = refl
  unread_is_not_counted (flipping w) none = refl
  unread_is_not_counted (reading d) none = by_test (same_channel c d)
      (λ e. let same : c ≡ d = same_channel-sound c d e in absurd (none [] (ap (λ x. Some (reaction_term (reading x))) (sym same))))
      (λ e. if-false (same_channel c d) 1 0 e)
  unread_is_not_counted (branching e r s) none =
      let m = unread_is_not_counted r (λ place. none (1 ∷ place)) in
      let n = unread_is_not_counted s (λ place. none (2 ∷ place)) in
      omega arith
  unread_is_not_counted (binding w r s) none =
      let m = unread_is_not_counted r (λ place. none (0 ∷ place)) in
      let n = unread_is_not_counted s (λ place. none (1 ∷ place)) in
      omega arith

  -- what is not counted is not among the channels that are read
  pub not_counted_is_unread : (k : Reaction) → read_count c k ≡ 0 → has (reads k) c ≡ false
  not_counted_is_unread (returning e) h = refl
  not_counted_is_unread (flipping w) h = refl
  not_counted_is_unread (reading d) h = by_test (same_channel c d)
      (λ e. let n : read_count c (reading d) ≡ 1 = if-true (same_channel c d) 1 0 e in let k : ⊥ = omega arith in absurd k)
      (λ e. has-single d c ∙ same_channel-false_swap c d e)
  not_counted_is_unread (branching e r s) h = not_in_union (reads r) (reads s) c (not_counted_is_unread r (omega arith)) (not_counted_is_unread s (omega arith))
  not_counted_is_unread (binding w r s) h = not_in_union (reads r) (reads s) c (not_counted_is_unread r (omega arith)) (not_counted_is_unread s (omega arith))

  -- two places where it is read are one, if it is read once
  pub one_place : (k : Reaction) → read_count c k ≡ 1 → (place other : List ℕ) → IsReadAt c k place → IsReadAt c k other → other ≡ place
  one_place k once [] [] at at' = refl
  one_place (reading d) once place other at at' = cc
  one_place (returning e) once place other at at' = absurd (let n = read_is_counted (returning e) place at in omega arith)
  one_place (flipping w) once place other at at' = absurd (let n = read_is_counted (flipping w) place at in omega arith)
  one_place (branching e r s) once (zero ∷ place) other at at' = absurd (none_in_expression e place (reading c) at)
  one_place (branching e r s) once place (zero ∷ other) at at' = absurd (none_in_expression e other (reading c) at')
  one_place (branching e r s) once (suc zero ∷ place) (suc zero ∷ other) at at' =
      let n = read_is_counted r place at in ap (λ p. 1 ∷ p) (one_place r (omega arith) place other at at')
  one_place (branching e r s) once (suc zero ∷ place) (suc (suc zero) ∷ other) at at' =
      let m = read_is_counted r place at in let n = read_is_counted s other at' in absurd (omega arith)
  one_place (branching e r s) once (suc (suc zero) ∷ place) (suc zero ∷ other) at at' =
      let m = read_is_counted r other at' in let n = read_is_counted s place at in absurd (omega arith)
  one_place (branching e r s) once (suc (suc zero) ∷ place) (suc (suc zero) ∷ other) at at' =
      let n = read_is_counted s place at in ap (λ p. 2 ∷ p) (one_place s (omega arith) place other at at')
  one_place (binding w r s) once (zero ∷ place) (zero ∷ other) at at' =
      let n = read_is_counted r place at in ap (λ p. 0 ∷ p) (one_place r (omega arith) place other at at')
  one_place (binding w r s) once (zero ∷ place) (suc zero ∷ other) at at' =
      let m = read_is_counted r place at in let n = read_is_counted s other at' in absurd (omega arith)
  one_place (binding w r s) once (suc zero ∷ place) (zero ∷ other) at at' =
      let m = read_is_counted r other at' in let n = read_is_counted s place at in absurd (omega arith)
  one_place (binding w r s) once (suc zero ∷ place) (suc zero ∷ other) at at' =
      let n = read_is_counted s place at in ap (λ p. 1 ∷ p) (one_place s (omega arith) place other at at')
  one_place k once _ _ at at' = cc

  -- a channel that is read at one place alone is read once
  pub alone_is_once : (k : Reaction) (place : List ℕ) → IsReadAt c k place → ((other : List ℕ) → IsReadAt c k other → other ≡ place) → read_count c k ≡ 1
  alone_is_once k [] at alone = let e : k ≡ reading c = cc in ap (read_count c) e ∙ read_count-itself
  alone_is_once (returning e) (zero ∷ place) at alone = absurd (none_in_expression e place (reading c) at)
  alone_is_once (branching e r s) (zero ∷ place) at alone = absurd (none_in_expression e place (reading c) at)
  alone_is_once (branching e r s) (suc zero ∷ place) at alone =
      let m = alone_is_once r place at (λ other h. later 1 other place (alone (1 ∷ other) h)) in
      let n = unread_is_not_counted s (λ other h. apart 2 1 other place (alone (2 ∷ other) h) refl) in
      omega arith
  alone_is_once (branching e r s) (suc (suc zero) ∷ place) at alone =
      let m = alone_is_once s place at (λ other h. later 2 other place (alone (2 ∷ other) h)) in
      let n = unread_is_not_counted r (λ other h. apart 1 2 other place (alone (1 ∷ other) h) refl) in
      omega arith
  alone_is_once (binding w r s) (zero ∷ place) at alone =
      let m = alone_is_once r place at (λ other h. later 0 other place (alone (0 ∷ other) h)) in
      let n = unread_is_not_counted s (λ other h. apart 1 0 other place (alone (1 ∷ other) h) refl) in
      omega arith
  alone_is_once (binding w r s) (suc zero ∷ place) at alone =
      let m = alone_is_once s place at (λ other h. later 1 other place (alone (1 ∷ other) h)) in
      let n = unread_is_not_counted r (λ other h. apart 0 1 other place (alone (0 ∷ other) h) refl) in
      omega arith
  alone_is_once _ _ at alone = cc

-- where a channel is read at a place, it is read at no other place exactly if it is read once
pub one_read_place : (c : Channel) (k : Reaction) (place : List ℕ) → term_at (reaction_term k) place ≡ Some (reaction_term (reading c)) →
    ((other : List ℕ) → term_at (reaction_term k) other ≡ Some (reaction_term (reading c)) → other ≡ place) ↔ (read_count c k ≡ 1)
one_read_place c k place at = (alone_is_once c k place at, λ once other at'. one_place c k once place other at at')
