-- Lists of names in the order of their bytes: what a binary search finds, and what an insertion leaves.
use Rattle.std.proofs.Common.{◌≡◌, ℕ, zero, suc, ◌+◌, ◌<◌, ◌≤◌, Bool, true, false, ◌||◌, List, [], ◌∷◌, length, get_or, take, drop, refl, sym, ap, ◌∙◌, subst, inl, inr, arith}
use Rattle.std.specs.Prelude.{Result, Ok, Err, is_ok}
use Rattle.std.specs.Cmp.{tied_itself}
use Rattle.std.specs.Cmp.Lexicographic.{slice_cmp, texts_ties}
use Rattle.std.specs.List.{AllByRecursion, AllWithin, insert}
use Rattle.std.specs.List.Sorted.{IsSortedBy, IsStrictlySortedBy, IsNonDecreasingBy, IsSearchInRange, IsBinarySearchResult}
use Rattle.std.specs.declared.cmp.Ordering.{Ordering}
use Rattle.std.specs.declared.cmp.Ordering.TheVariants.{Less, Equal, Greater}
use Rattle.std.specs.Ordering.{nat_cmp, is_lt, is_eq, ordering_index, ordering_reverse}
use Rattle.std.proofs.lemmas.Bool.{false≢true, false_from_ne_true, cases_lt}
use Rattle.std.proofs.lemmas.Cmp.{nat_list_cmp_total}
use Rattle.std.proofs.lemmas.List.{take-append-drop}
use Rattle.std.proofs.lemmas.List.Sorted.{searchable_from_sorted}
use Rattle.std.proofs.lemmas.Slice.Eq.{bytes_eq-Decides}
use Rattle.ipdl_term.specs.Terms.{Channel}
use Rattle.ipdl_term.specs.Channels.{same_channel, has, SameSet}
use Rattle.ipdl_term.proofs.ChannelSets.{same_channel-sound, has-at, has-apart, has-append}

-- the order of the bytes
abbrev pub order : Channel → Channel → Ordering
order = slice_cmp nat_cmp

-- ---- the order and equality

-- names that tie are equal
equal_from_tie : (c d : Channel) → order c d ≡ Equal → c ≡ d
equal_from_tie c d tie = (bytes_eq-Decides c d).0 (texts_ties c d ∙ ap is_eq tie)

-- names that do not tie are not the same
apart_from_order : (c d : Channel) (o : Ordering) → order c d ≡ o → is_eq o ≡ false → same_channel c d ≡ false
apart_from_order c d o by differs =
    false_from_ne_true (same_channel c d) (λ same. let e : c ≡ d = same_channel-sound c d same in let t : order c c ≡ Equal = tied_itself nat_list_cmp_total c in let s : order c c ≡ o = subst (λ x. order c x ≡ o) (sym e) by in false≢true (sym differs ∙ ap is_eq (sym s ∙ t)))

-- the order turned round
below_from_above : (c d : Channel) → order c d ≡ Greater → order d c ≡ Less
below_from_above c d above = nat_list_cmp_total.antisymm d c ∙ ap ordering_reverse above

-- ---- what a binary search says

-- a place further on, among three names or more
later_places : (c d : Channel) (cs : List Channel) → order c d ≡ Less → IsSortedBy (λ a b. is_lt (order a b)) (d ∷ cs) → (k : ℕ) (e : Channel) → k + 1 < length (c ∷ d ∷ cs) → is_lt (order (get_or (c ∷ d ∷ cs) (k + 1) e) (get_or (c ∷ d ∷ cs) k e)) ≡ false
later_places c d cs first rest zero e high =
    ap is_lt (nat_list_cmp_total.antisymm d c ∙ ap ordering_reverse first)
later_places c d cs first rest (suc k) e high =
    let next : suc k + 1 ≡ suc (k + 1) = omega arith in rw next (rest k e (omega arith) (omega arith))

-- no name is below the one before it
not_below_before : (cs : List Channel) → IsStrictlySortedBy order cs → IsSortedBy (λ a b. is_lt (order a b)) cs
unfolding IsStrictlySortedBy
not_below_before [] sorted = λ k d low high. absurd (omega arith)
not_below_before (c ∷ []) sorted = λ k d low high. absurd (omega arith)
not_below_before (c ∷ d ∷ cs) sorted =
    let rest = not_below_before (d ∷ cs) sorted.1 in λ k e low high. later_places c d cs sorted.0.0 rest k e high

-- so the answers of the comparisons with a name do not fall
searchable : (cs : List Channel) (c : Channel) → IsStrictlySortedBy order cs → IsNonDecreasingBy (λ d. ordering_index (order d c)) cs
searchable cs c sorted = searchable_from_sorted nat_list_cmp_total (λ d. d) cs c (not_below_before cs sorted)

-- the search tells whether the name is a member
pub has_from_search : (cs : List Channel) (c : Channel) (r : Result ℕ ℕ) → IsStrictlySortedBy order cs → IsSearchInRange r (length cs) → IsBinarySearchResult (λ d. order d c) cs r → is_ok r ≡ has cs c
has_from_search cs c (Ok i) sorted within found =
    sym (has-at cs i c within (λ d. equal_from_tie (get_or cs i d) c (found d)))
has_from_search cs c (Err i) sorted within place =
    let sides = place (searchable cs c sorted) in
    sym (has-apart cs c (λ k d inside. elim (cases_lt k i) [
      | inl before ↦ apart_from_order (get_or cs k d) c Less (sides.0 k d (omega arith) before) refl
      | inr after ↦ apart_from_order (get_or cs k d) c Greater (sides.1 k d after inside) refl
    ]))

-- ---- what an insertion leaves

-- from places to the list itself
all_from_places : (c : Channel) (cs : List Channel) → ((k : ℕ) (d : Channel) → k < length cs → order (get_or cs k d) c ≡ Greater) → AllByRecursion (λ d. order c d ≡ Less) cs
all_from_places c [] above = tt
all_from_places c (d ∷ cs) above =
    (below_from_above d c (above 0 d (omega arith)), all_from_places c cs (λ k e inside. above (suc k) e (omega arith)))

-- what holds of each name and of the new one holds of each in the end
all_inserted : (P : Channel → Type 0) (cs : List Channel) (i : ℕ) (c : Channel) → P c → AllByRecursion P cs → AllByRecursion P (insert cs i c)
all_inserted P cs zero c one all = (one, all)
all_inserted P [] (suc i) c one all = (one, tt)
all_inserted P (d ∷ cs) (suc i) c one all = (all.0, all_inserted P cs i c one all.1)

-- a name between those below it and those above it
sorted_inserted : (cs : List Channel) (i : ℕ) (c : Channel) → i ≤ length cs → AllWithin (λ d. order d c ≡ Less) cs 0 i → AllWithin (λ d. order d c ≡ Greater) cs i (length cs) → IsStrictlySortedBy order cs → IsStrictlySortedBy order (insert cs i c)
unfolding IsStrictlySortedBy
sorted_inserted cs zero c within below above sorted =
    (all_from_places c cs (λ k d inside. above k d (omega arith) inside), sorted)
sorted_inserted [] (suc i) c within below above sorted = absurd (omega arith)
sorted_inserted (d ∷ cs) (suc i) c within below above sorted = (
  all_inserted (λ e. order d e ≡ Less) cs i c (below 0 d (omega arith) (omega arith)) sorted.0,
  sorted_inserted cs i c (omega arith) (λ k e low high. below (suc k) e (omega arith) (omega arith)) (λ k e low high. above (suc k) e (omega arith) (omega arith)) sorted.1,
)

-- the name goes where the search found no place for it
pub sorted_from_search : (cs : List Channel) (c : Channel) (r : Result ℕ ℕ) (i : ℕ) → r ≡ Err i → IsStrictlySortedBy order cs → IsSearchInRange r (length cs) → IsBinarySearchResult (λ d. order d c) cs r → IsStrictlySortedBy order (insert cs i c)
sorted_from_search cs c (Ok j) i is sorted within place = cc
sorted_from_search cs c (Err j) i is sorted within place =
    let sides = place (searchable cs c sorted) in
    let here : j ≡ i = cc in
    subst (λ k. IsStrictlySortedBy order (insert cs k c)) here (sorted_inserted cs j c within sides.0 sides.1 sorted)

-- the members are then the name and what was there
pub SameSet-insert : (cs : List Channel) (i : ℕ) (c : Channel) → SameSet (insert cs i c) (c ∷ cs)
SameSet-insert cs i c d =
    has-append (take i cs) (c ∷ drop i cs) d
    ∙ turned (has (take i cs) d) (same_channel c d) (has (drop i cs) d)
    ∙ ap (λ b. same_channel c d || b) (sym (has-append (take i cs) (drop i cs) d) ∙ ap (λ l. has l d) (take-append-drop i cs))
  where
    turned : (x y z : Bool) → (x || (y || z)) ≡ (y || (x || z))
    turned true true z = refl
    turned true false z = refl
    turned false y z = refl

-- a member that is added again
pub SameSet-again : (cs : List Channel) (c : Channel) → has cs c ≡ true → SameSet cs (c ∷ cs)
SameSet-again cs c held d = covered (same_channel c d) (has cs d) (λ same. subst (λ x. has cs x ≡ true) (same_channel-sound c d same) held)
  where
    covered : (a b : Bool) → (a ≡ true → b ≡ true) → b ≡ (a || b)
    covered true b f = f refl
    covered false b f = refl
