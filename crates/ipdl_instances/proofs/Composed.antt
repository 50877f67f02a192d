-- Renamings of what is in a context, one renaming after another, and renamings that change nothing.
use Rattle.std.proofs.Common.{◌≡◌, true, false, ◌||◌, List, [], ◌∷◌, ◌++◌, refl, sym, ap, ap₂, ◌∙◌}
use Rattle.std.proofs.lemmas.Bool.{or_left, or_right}
use Rattle.ipdl_term.specs.Channels.{same_channel, has, reads, free_channels, AreDisjoint}
use Rattle.ipdl_term.specs.Contexts.{plugged}
use Rattle.ipdl_term.specs.Renaming.{Renaming, renaming_of, keeping, renamed_reaction, renamed, renamed_context, renaming_at, hidden_channels, hidden_around, CapturesNone}
use Rattle.ipdl_term.specs.Terms.{Channel, Reaction, returning, flipping, reading, branching, binding, Protocol, nil, assignment, parallel, hiding, Context, hole, in_left, in_right, in_hiding}
use Rattle.ipdl_term.specs.declared.interface.Interface.{Interface}
use Rattle.ipdl_term.proofs.ChannelSets.{same_channel-sound, same_channel-itself, has-append}
use Rattle.ipdl_laws.proofs.Sets.{by_test, if-true, if-false, not_both, has-single, in_union_left, in_union_right, has-without}
use Rattle.ipdl_embed.specs.Completing.{channels_of, completed}
use Rattle.ipdl_embed.specs.Pairs.{named}

-- ---- contexts

-- a renamed protocol in a renamed context
pub renamed-plugged : (f : Renaming) (C : Context) (p : Protocol) → renamed f (plugged C p) ≡ plugged (renamed_context f C) (renamed (renaming_at C f) p)
renamed-plugged f hole p = refl
renamed-plugged f (in_left C q) p = ap (λ x. parallel x (renamed f q)) (renamed-plugged f C p)
renamed-plugged f (in_right q C) p = ap (λ x. parallel (renamed f q) x) (renamed-plugged f C p)
renamed-plugged f (in_hiding c w C) p = ap (hiding c w) (renamed-plugged (keeping c f) C p)

-- ---- renamings that agree

-- what both give to each channel but one that is kept
keeping_agree : (c : Channel) (f g : Renaming) (d : Channel) → (same_channel c d ≡ false → f d ≡ g d) → keeping c f d ≡ keeping c g d
keeping_agree c f g d same = by_test (same_channel c d)
    (λ e. if-true (same_channel c d) _ _ e ∙ sym (if-true (same_channel c d) _ _ e))
    (λ e. if-false (same_channel c d) _ _ e ∙ same e ∙ sym (if-false (same_channel c d) _ _ e))

renamed_reaction_agree : (f g : Renaming) (r : Reaction) → ((c : Channel) → has (reads r) c ≡ true → f c ≡ g c) → renamed_reaction f r ≡ renamed_reaction g r
renamed_reaction_agree f g (returning e) same = refl
renamed_reaction_agree f g (flipping w) same = refl
renamed_reaction_agree f g (reading c) same = ap reading (same c (has-single c c ∙ same_channel-itself c))
renamed_reaction_agree f g (branching e r s) same =
    ap₂ (branching e) (renamed_reaction_agree f g r (λ c h. same c (in_union_left (reads r) (reads s) c h))) (renamed_reaction_agree f g s (λ c h. same c (in_union_right (reads r) (reads s) c h)))
renamed_reaction_agree f g (binding w r s) same =
    ap₂ (binding w) (renamed_reaction_agree f g r (λ c h. same c (in_union_left (reads r) (reads s) c h))) (renamed_reaction_agree f g s (λ c h. same c (in_union_right (reads r) (reads s) c h)))

-- renamings that agree on the free channels make the same of a protocol
pub renamed_agree : (f g : Renaming) (p : Protocol) → ((c : Channel) → has (free_channels p) c ≡ true → f c ≡ g c) → renamed f p ≡ renamed g p
renamed_agree f g nil same = refl
renamed_agree f g (assignment c r) same = ap₂ assignment
    (same c (in_union_left (c ∷ []) (reads r) c (has-single c c ∙ same_channel-itself c)))
    (renamed_reaction_agree f g r (λ d h. same d (in_union_right (c ∷ []) (reads r) d h)))
renamed_agree f g (parallel p q) same = ap₂ parallel
    (renamed_agree f g p (λ c h. same c (in_union_left (free_channels p) (free_channels q) c h)))
    (renamed_agree f g q (λ c h. same c (in_union_right (free_channels p) (free_channels q) c h)))
renamed_agree f g (hiding c w p) same = ap (hiding c w) (renamed_agree (keeping c f) (keeping c g) p
    (λ d h. keeping_agree c f g d (λ e. same d (has-without c (free_channels p) d e ∙ h))))

-- ---- one renaming after another

renamed_reaction-twice : (g h : Renaming) (r : Reaction) → renamed_reaction h (renamed_reaction g r) ≡ renamed_reaction (λ c. h (g c)) r
renamed_reaction-twice g h (returning e) = refl
renamed_reaction-twice g h (flipping w) = refl
renamed_reaction-twice g h (reading c) = refl
renamed_reaction-twice g h (branching e r s) = ap₂ (branching e) (renamed_reaction-twice g h r) (renamed_reaction-twice g h s)
renamed_reaction-twice g h (binding w r s) = ap₂ (binding w) (renamed_reaction-twice g h r) (renamed_reaction-twice g h s)

-- where the first captures nothing, the two are one
pub renamed-twice : (g h : Renaming) (p : Protocol) → CapturesNone (free_channels p) g p → renamed h (renamed g p) ≡ renamed (λ c. h (g c)) p
renamed-twice g h nil none = refl
renamed-twice g h (assignment c r) none = ap (assignment (h (g c))) (renamed_reaction-twice g h r)
renamed-twice g h (parallel p q) none = ap₂ parallel
    (renamed-twice g h p (λ c k l. none c (in_union_left (free_channels p) (free_channels q) c k) (has-append (hidden_channels p) (hidden_channels q) (g c) ∙ or_left (has (hidden_channels p) (g c)) (has (hidden_channels q) (g c)) l)))
    (renamed-twice g h q (λ c k l. none c (in_union_right (free_channels p) (free_channels q) c k) (has-append (hidden_channels p) (hidden_channels q) (g c) ∙ or_right (has (hidden_channels p) (g c)) (has (hidden_channels q) (g c)) l)))
renamed-twice g h (hiding c w p) none = ap (hiding c w) (
    renamed-twice (keeping c g) (keeping c h) p none_below ∙
    renamed_agree (λ d. keeping c h (keeping c g d)) (keeping c (λ d. h (g d))) p both)
  where
    none_below : CapturesNone (free_channels p) (keeping c g) p
    none_below d k l = by_test (same_channel c d)
        (λ e. if-true (same_channel c d) _ _ e)
        (λ e. if-false (same_channel c d) d (g d) e ∙ none d (has-without c (free_channels p) d e ∙ k)
        (or_right (same_channel c (g d)) (has (hidden_channels p) (g d)) (sym (ap (has (hidden_channels p)) (if-false (same_channel c d) d (g d) e)) ∙ l)))

    -- another channel than c does not take its name
    other : (d : Channel) → has (free_channels p) d ≡ true → same_channel c d ≡ false → same_channel c (g d) ≡ false
    other d k e = by_test (same_channel c (g d))
        (λ l. not_both (same_channel c d) (sym (ap (same_channel c) (none d (has-without c (free_channels p) d e ∙ k) (or_left (same_channel c (g d)) (has (hidden_channels p) (g d)) l))) ∙ l) e)
        (λ l. l)

    both : (d : Channel) → has (free_channels p) d ≡ true → keeping c h (keeping c g d) ≡ keeping c (λ x. h (g x)) d
    both d k = by_test (same_channel c d)
        (λ e. ap (keeping c h) (if-true (same_channel c d) d (g d) e) ∙ if-true (same_channel c d) d (h d) e ∙ sym (if-true (same_channel c d) d (h (g d)) e))
        (λ e. ap (keeping c h) (if-false (same_channel c d) d (g d) e) ∙ if-false (same_channel c (g d)) (g d) (h (g d)) (other d k e) ∙ sym (if-false (same_channel c d) d (h (g d)) e))

-- ---- renamings that change nothing

keeping_same : (c : Channel) (f : Renaming) → ((d : Channel) → f d ≡ d) → (d : Channel) → keeping c f d ≡ d
keeping_same c f same d = by_test (same_channel c d) (λ e. if-true (same_channel c d) _ _ e) (λ e. if-false (same_channel c d) _ _ e ∙ same d)

renamed_reaction_same : (f : Renaming) (r : Reaction) → ((c : Channel) → f c ≡ c) → renamed_reaction f r ≡ r
renamed_reaction_same f (returning e) same = refl
renamed_reaction_same f (flipping w) same = refl
renamed_reaction_same f (reading c) same = ap reading (same c)
renamed_reaction_same f (branching e r s) same = ap₂ (branching e) (renamed_reaction_same f r same) (renamed_reaction_same f s same)
renamed_reaction_same f (binding w r s) same = ap₂ (binding w) (renamed_reaction_same f r same) (renamed_reaction_same f s same)

pub renamed_same : (f : Renaming) (p : Protocol) → ((c : Channel) → f c ≡ c) → renamed f p ≡ p
renamed_same f nil same = refl
renamed_same f (assignment c r) same = ap₂ assignment (same c) (renamed_reaction_same f r same)
renamed_same f (parallel p q) same = ap₂ parallel (renamed_same f p same) (renamed_same f q same)
renamed_same f (hiding c w p) same = ap (hiding c w) (renamed_same (keeping c f) p (keeping_same c f same))

-- the same of a context
pub renamed_context_same : (f : Renaming) (C : Context) → ((c : Channel) → f c ≡ c) → renamed_context f C ≡ C
renamed_context_same f hole same = refl
renamed_context_same f (in_left C q) same = ap₂ in_left (renamed_context_same f C same) (renamed_same f q same)
renamed_context_same f (in_right q C) same = ap₂ in_right (renamed_same f q same) (renamed_context_same f C same)
renamed_context_same f (in_hiding c w C) same = ap (in_hiding c w) (renamed_context_same (keeping c f) C (keeping_same c f same))

-- pairs of channels that keep their names
pub renaming_of-named : (f : Renaming) (cs : List Channel) → ((c : Channel) → f c ≡ c) → (c : Channel) → renaming_of (named f cs) c ≡ c
renaming_of-named f [] same c = refl
renaming_of-named f (d ∷ cs) same c = by_test (same_channel d c)
    (λ e. if-true (same_channel d c) _ _ e ∙ same d ∙ same_channel-sound d c e)
    (λ e. if-false (same_channel d c) _ _ e ∙ renaming_of-named f cs same c)

pub renamed_in_own_names : (cs : List Channel) (p : Protocol) → renamed (renaming_of (named (λ c. c) cs)) p ≡ p
renamed_in_own_names cs p = renamed_same (renaming_of (named (λ c. c) cs)) p (renaming_of-named (λ c. c) cs (λ c. refl))

-- the pairs of an interface of which none is given
pub renamed_by_no_pairs : (i : Interface) (p : Protocol) → renamed (renaming_of (completed i [])) p ≡ p
renamed_by_no_pairs i p = renamed_same (renaming_of (completed i [])) p (renaming_of-named (renaming_of []) (channels_of i) (λ c. refl))

-- ---- hidden channels

-- the hidden channels keep their names
pub hidden_channels-renamed : (f : Renaming) (p : Protocol) → hidden_channels (renamed f p) ≡ hidden_channels p
hidden_channels-renamed f nil = refl
hidden_channels-renamed f (assignment c r) = refl
hidden_channels-renamed f (parallel p q) = ap₂ ◌++◌ (hidden_channels-renamed f p) (hidden_channels-renamed f q)
hidden_channels-renamed f (hiding c w p) = ap (λ cs. c ∷ cs) (hidden_channels-renamed (keeping c f) p)

-- so do those around a hole
pub hidden_around-renamed : (f : Renaming) (C : Context) → hidden_around (renamed_context f C) ≡ hidden_around C
hidden_around-renamed f hole = refl
hidden_around-renamed f (in_left C q) = hidden_around-renamed f C
hidden_around-renamed f (in_right q C) = hidden_around-renamed f C
hidden_around-renamed f (in_hiding c w C) = ap (λ cs. c ∷ cs) (hidden_around-renamed (keeping c f) C)

-- what is hidden in the hole or around it is hidden in the whole
pub hidden_in_hole : (C : Context) (p : Protocol) (c : Channel) → has (hidden_channels p) c ≡ true → has (hidden_channels (plugged C p)) c ≡ true
hidden_in_hole hole p c h = h
hidden_in_hole (in_left C q) p c h = has-append (hidden_channels (plugged C p)) (hidden_channels q) c ∙ or_left (has (hidden_channels (plugged C p)) c) (has (hidden_channels q) c) (hidden_in_hole C p c h)
hidden_in_hole (in_right q C) p c h = has-append (hidden_channels q) (hidden_channels (plugged C p)) c ∙ or_right (has (hidden_channels q) c) (has (hidden_channels (plugged C p)) c) (hidden_in_hole C p c h)
hidden_in_hole (in_hiding d w C) p c h = or_right (same_channel d c) (has (hidden_channels (plugged C p)) c) (hidden_in_hole C p c h)

pub hidden_around_hole : (C : Context) (p : Protocol) (c : Channel) → has (hidden_around C) c ≡ true → has (hidden_channels (plugged C p)) c ≡ true
hidden_around_hole hole p c h = not_both false h refl
hidden_around_hole (in_left C q) p c h = has-append (hidden_channels (plugged C p)) (hidden_channels q) c ∙ or_left (has (hidden_channels (plugged C p)) c) (has (hidden_channels q) c) (hidden_around_hole C p c h)
hidden_around_hole (in_right q C) p c h = has-append (hidden_channels q) (hidden_channels (plugged C p)) c ∙ or_right (has (hidden_channels q) c) (has (hidden_channels (plugged C p)) c) (hidden_around_hole C p c h)
hidden_around_hole (in_hiding d w C) p c h = by_test (same_channel d c)
    (λ e. or_left (same_channel d c) (has (hidden_channels (plugged C p)) c) e)
    (λ e. or_right (same_channel d c) (has (hidden_channels (plugged C p)) c) (hidden_around_hole C p c (sym (ap (λ b. b || has (hidden_around C) c) e) ∙ h)))

-- where each channel of a list is in another one, what has none of the latter has none of the former
AreDisjoint-part : (ds part whole : List Channel) → ((c : Channel) → has part c ≡ true → has whole c ≡ true) → AreDisjoint ds whole → AreDisjoint ds part
AreDisjoint-part ds part whole within apart c h = by_test (has part c) (λ e. not_both (has whole c) (within c e) (apart c h)) (λ e. e)

pub AreDisjoint-plugged : (ds : List Channel) (C : Context) (p : Protocol) → AreDisjoint ds (hidden_channels (plugged C p)) → AreDisjoint ds (hidden_channels p) × AreDisjoint ds (hidden_around C)
AreDisjoint-plugged ds C p apart = (
  AreDisjoint-part ds (hidden_channels p) (hidden_channels (plugged C p)) (hidden_in_hole C p) apart,
  AreDisjoint-part ds (hidden_around C) (hidden_channels (plugged C p)) (hidden_around_hole C p) apart,
)
