-- Names that are all new: none is in a set, and none stands twice. And which channels are free in what is put together.
use Rattle.std.proofs.Common.{◌≡◌, ℕ, true, false, ◌||◌, List, [], ◌∷◌, ◌++◌, Some, None, refl, sym, ap, ◌∙◌}
use Rattle.std.proofs.lemmas.Bool.{or_parts, or_from}
use Rattle.std.proofs.lemmas.List.{map-append}
use Rattle.ipdl_laws.proofs.Sets.{by_test, if-true, if-false, has-without, has-without_same, not_in_union, in_neither}
use Rattle.ipdl_norm.specs.Repeated.{first_repeated}
use Rattle.ipdl_norm.specs.Shaped.{hidden, assignments, names_of, side_by_side, all_hidden}
use Rattle.ipdl_term.proofs.ChannelSets.{has-append, same_channel-sound}
use Rattle.ipdl_term.specs.Channels.{same_channel, has, free_channels}
use Rattle.ipdl_term.specs.Terms.{Channel, Reaction, Protocol, nil, assignment, parallel, hiding}

-- ---- new names

abbrev pub AreNew : List Channel → List Channel → Type 0
AreNew seen [] = Unit {0}
AreNew seen (c ∷ cs) = (has seen c ≡ false) × AreNew (c ∷ seen) cs

pub new_unless_repeated : (seen cs : List Channel) → first_repeated seen cs ≡ None → AreNew seen cs
new_unless_repeated seen [] h = tt
new_unless_repeated seen (c ∷ cs) h = by_test (has seen c)
    (λ k. let some : Some c ≡ None = sym (if-true (has seen c) (Some c) (first_repeated (c ∷ seen) cs) k) ∙ h in cc)
    (λ k. (k, new_unless_repeated (c ∷ seen) cs (sym (if-false (has seen c) (Some c) (first_repeated (c ∷ seen) cs) k) ∙ h)))

-- for a set that has no more
pub new_for_fewer : (seen fewer cs : List Channel) → ((d : Channel) → has seen d ≡ false → has fewer d ≡ false) → AreNew seen cs → AreNew fewer cs
new_for_fewer seen fewer [] less new = tt
new_for_fewer seen fewer (c ∷ cs) less new =
    (less c new.0, new_for_fewer (c ∷ seen) (c ∷ fewer) cs (λ d k. let l = or_parts (same_channel c d) (has seen d) k in or_from _ _ l.0 (less d l.1)) new.1)

pub new_in_front : (seen cs ds : List Channel) → AreNew seen (cs ++ ds) → AreNew seen cs
new_in_front seen [] ds new = tt
new_in_front seen (c ∷ cs) ds new = (new.0, new_in_front (c ∷ seen) cs ds new.1)

-- a new name is not in the set
pub new_apart : (seen ds : List Channel) → AreNew seen ds → (d : Channel) → has ds d ≡ true → has seen d ≡ false
new_apart seen [] new d k = cc
new_apart seen (e ∷ ds) new d k = by_test (same_channel e d)
    (λ m. let same = same_channel-sound e d m in ap (has seen) (sym same) ∙ new.0)
    (λ m. let behind : has ds d ≡ true = sym (ap (λ b. b || has ds d) m) ∙ k in
    (or_parts (same_channel e d) (has seen d) (new_apart (e ∷ seen) ds new.1 d behind)).1)

-- the ones behind are new for the ones in front too
pub new_behind : (seen cs ds : List Channel) → AreNew seen (cs ++ ds) → AreNew seen ds × ((d : Channel) → has ds d ≡ true → has cs d ≡ false)
new_behind seen [] ds new = (new, λ d k. refl)
new_behind seen (c ∷ cs) ds new =
    let rest = new_behind (c ∷ seen) cs ds new.1 in (
      new_for_fewer (c ∷ seen) seen ds (λ d k. (or_parts (same_channel c d) (has seen d) k).1) rest.0,
      λ d k. or_from _ _ (or_parts (same_channel c d) (has seen d) (new_apart (c ∷ seen) ds rest.0 d k)).0 (rest.1 d k),
    )

-- ---- free channels

pub free_side_by_side : (xs ys : List (Channel × Reaction)) (c : Channel) → has (free_channels (side_by_side xs)) c ≡ false → has (free_channels (side_by_side ys)) c ≡ false → has (free_channels (side_by_side (xs ++ ys))) c ≡ false
free_side_by_side [] ys c h k = k
free_side_by_side (x ∷ []) [] c h k = h
free_side_by_side (x ∷ []) (y ∷ ys) c h k = not_in_union (free_channels (assignment x.0 x.1)) (free_channels (side_by_side (y ∷ ys))) c h k
free_side_by_side (x ∷ z ∷ xs) ys c h k =
    let l = in_neither (free_channels (assignment x.0 x.1)) (free_channels (side_by_side (z ∷ xs))) c h in
    not_in_union (free_channels (assignment x.0 x.1)) (free_channels (side_by_side (z ∷ (xs ++ ys)))) c l.0 (free_side_by_side (z ∷ xs) ys c l.1 k)

-- a channel that is neither free nor hidden in a protocol is in none of its assignments
pub free_assignments : (p : Protocol) (c : Channel) → has (free_channels p) c ≡ false → has (names_of (hidden p)) c ≡ false → has (free_channels (side_by_side (assignments p))) c ≡ false
free_assignments nil c h k = refl
free_assignments (assignment d r) c h k = h
free_assignments (parallel p q) c h k =
    let free = in_neither (free_channels p) (free_channels q) c h in
    let named = or_parts (has (names_of (hidden p)) c) (has (names_of (hidden q)) c) (sym (has-append (names_of (hidden p)) (names_of (hidden q)) c) ∙ ap (λ cs. has cs c) (sym (map-append (λ x. x.0) (hidden p) (hidden q))) ∙ k) in
    free_side_by_side (assignments p) (assignments q) c (free_assignments p c free.0 named.0) (free_assignments q c free.1 named.1)
free_assignments (hiding d w p) c h k =
    let named = or_parts (same_channel d c) (has (names_of (hidden p)) c) k in
    free_assignments p c (sym (has-without d (free_channels p) c named.0) ∙ h) named.1

pub free_all_hidden : (hs : List (Channel × ℕ)) (p : Protocol) (c : Channel) → (has (names_of hs) c ≡ false → has (free_channels p) c ≡ false) → has (free_channels (all_hidden hs p)) c ≡ false
free_all_hidden [] p c h = h refl
free_all_hidden (x ∷ hs) p c h = by_test (same_channel x.0 c)
    (λ e. has-without_same x.0 (free_channels (all_hidden hs p)) c e)
    (λ e. has-without x.0 (free_channels (all_hidden hs p)) c e ∙ free_all_hidden hs p c (λ k. h (or_from _ _ e k)))
