-- Renamed terms mirror the terms, and so they do the same.
use Rattle.std.proofs.Common.{◌≡◌, ℕ, ◌+◌, max, Bool, true, false, List, [], ◌∷◌, map, Some, refl, sym, ap, ap₂, ◌∙◌, subst}
use Rattle.std.proofs.lemmas.Bool.{or_left, or_right}
use Rattle.ipdl_term.specs.Channels.{same_channel, has, reads, outputs, free_channels}
use Rattle.ipdl_term.specs.Interpretations.{Signature, Interpretation}
use Rattle.ipdl_term.specs.Protocols.{coins, protocol_valuation}
use Rattle.ipdl_term.specs.Reactions.{reaction_coins}
use Rattle.ipdl_term.specs.Terms.{Channel, Reaction, returning, flipping, reading, branching, binding, Protocol, nil, assignment, parallel, hiding}
use Rattle.ipdl_term.specs.Typing.{Scope, IsTyped}
use Rattle.ipdl_term.specs.Valuations.{Valuation}
use Rattle.ipdl_term.proofs.ChannelSets.{same_channel-itself, has-append}
use Rattle.ipdl_laws.proofs.Sets.{by_test, if-true, if-false, not_both, has-single, in_union_left, in_union_right, has-without}
use Rattle.ipdl_term.specs.Renaming.{Renaming, keeping, renamed_reaction, renamed, hidden_channels, IsInjectiveOn, CapturesNone}
use Rattle.ipdl_laws.proofs.Pairings.{Pairing, IsOneToOne, below, SameNames, same_channel-image}
use Rattle.ipdl_laws.proofs.Mirrors.{MirrorsReaction, Mirrors, SameNames-outputs, SameNames-free_channels, protocol_valuation-mirrored, IsTyped-mirrored}

-- ---- the coins

-- as many
reaction_coins-renamed : (f : Renaming) (r : Reaction) → reaction_coins (renamed_reaction f r) ≡ reaction_coins r
reaction_coins-renamed f (returning e) = refl
reaction_coins-renamed f (flipping w) = refl
reaction_coins-renamed f (reading c) = refl
reaction_coins-renamed f (branching e r s) = ap₂ max (reaction_coins-renamed f r) (reaction_coins-renamed f s)
reaction_coins-renamed f (binding w r s) = ap₂ ◌+◌ (reaction_coins-renamed f r) (reaction_coins-renamed f s)

pub coins-renamed : (f : Renaming) (p : Protocol) → coins (renamed f p) ≡ coins p
coins-renamed f nil = refl
coins-renamed f (assignment c r) = reaction_coins-renamed f r
coins-renamed f (parallel p q) = ap₂ ◌+◌ (coins-renamed f p) (coins-renamed f q)
coins-renamed f (hiding c w p) = coins-renamed (keeping c f) p

-- ---- mirrored

-- a renamed reaction mirrors the reaction where each channel that it reads stands for its new name
MirrorsReaction-renamed : (R : Pairing) (f : Renaming) (r : Reaction) → ((c : Channel) → has (reads r) c ≡ true → R c (f c)) → MirrorsReaction R r (renamed_reaction f r)
MirrorsReaction-renamed R f (returning e) h = refl
MirrorsReaction-renamed R f (flipping w) h = refl
MirrorsReaction-renamed R f (reading c) h = h c (has-single c c ∙ same_channel-itself c)
MirrorsReaction-renamed R f (branching e r s) h = (
  refl,
  MirrorsReaction-renamed R f r (λ c k. h c (in_union_left (reads r) (reads s) c k)),
  MirrorsReaction-renamed R f s (λ c k. h c (in_union_right (reads r) (reads s) c k)),
)
MirrorsReaction-renamed R f (binding w r s) h = (
  refl,
  MirrorsReaction-renamed R f r (λ c k. h c (in_union_left (reads r) (reads s) c k)),
  MirrorsReaction-renamed R f s (λ c k. h c (in_union_right (reads r) (reads s) c k)),
)

-- and so does a renamed protocol, where nothing is captured
pub Mirrors-renamed : (R : Pairing) (f : Renaming) (p : Protocol) → CapturesNone (free_channels p) f p → ((c : Channel) → has (free_channels p) c ≡ true → R c (f c)) → Mirrors R p (renamed f p)
Mirrors-renamed R f nil none h = tt
Mirrors-renamed R f (assignment c r) none h = (
  h c (in_union_left (c ∷ []) (reads r) c (has-single c c ∙ same_channel-itself c)),
  MirrorsReaction-renamed R f r (λ d k. h d (in_union_right (c ∷ []) (reads r) d k)),
)
Mirrors-renamed R f (parallel p q) none h = (
  Mirrors-renamed R f p
      (λ c k l. none c (in_union_left (free_channels p) (free_channels q) c k) (has-append (hidden_channels p) (hidden_channels q) (f c) ∙ or_left (has (hidden_channels p) (f c)) (has (hidden_channels q) (f c)) l))
      (λ c k. h c (in_union_left (free_channels p) (free_channels q) c k)),
  Mirrors-renamed R f q
      (λ c k l. none c (in_union_right (free_channels p) (free_channels q) c k) (has-append (hidden_channels p) (hidden_channels q) (f c) ∙ or_right (has (hidden_channels p) (f c)) (has (hidden_channels q) (f c)) l))
      (λ c k. h c (in_union_right (free_channels p) (free_channels q) c k)),
)
Mirrors-renamed R f (hiding c w p) none h =
    let free : (d : Channel) → same_channel c d ≡ false → has (free_channels p) d ≡ true → has (free_channels (hiding c w p)) d ≡ true = λ d e k. has-without c (free_channels p) d e ∙ k in
    let kept : (d : Channel) → same_channel c d ≡ true → keeping c f d ≡ d = λ d e. if-true (same_channel c d) _ _ e in
    let new : (d : Channel) → same_channel c d ≡ false → keeping c f d ≡ f d = λ d e. if-false (same_channel c d) _ _ e in (
      refl,
      Mirrors-renamed (below c c R) (keeping c f) p
          (λ d k l. by_test (same_channel c d)
          (λ e. kept d e)
          (λ e. new d e ∙ none d (free d e k) (or_right (same_channel c (f d)) (has (hidden_channels p) (f d)) (sym (ap (has (hidden_channels p)) (new d e)) ∙ l))))
          (λ d k. by_test (same_channel c d)
          (λ e. subst (below c c R d) (sym (kept d e)) (refl, λ l. not_both (same_channel c d) e l))
          (λ e. subst (below c c R d) (sym (new d e)) (
            e ∙ sym (by_test (same_channel c (f d))
                (λ l. not_both (same_channel c d) (sym (ap (same_channel c) (none d (free d e k) (or_left (same_channel c (f d)) (has (hidden_channels p) (f d)) l))) ∙ l) e)
                (λ l. l)),
            λ l. h d (free d e k),
          ))),
    )

-- ---- the laws

-- each free channel of the protocol with its new name
abbrev pub new_names : Renaming → Protocol → Pairing
new_names f p c c' = (has (free_channels p) c ≡ true) × (f c ≡ c')

-- different free channels have different new names
pub IsOneToOne-new_names : (f : Renaming) (p : Protocol) → IsInjectiveOn (free_channels p) f → IsOneToOne (new_names f p)
IsOneToOne-new_names f p injective c c' d d' h k = same_channel-image f c d (injective c d h.0 k.0) ∙ ap₂ same_channel h.1 k.1

-- lists of new names
new_list : (f : Renaming) (p : Protocol) (cs cs' : List Channel) → SameNames (new_names f p) cs cs' → cs' ≡ map f cs
new_list f p [] [] h = refl
new_list f p (c ∷ cs) (c' ∷ cs') h = ap₂ ◌∷◌ (sym h.0.1) (new_list f p cs cs' h.1)
new_list f p _ _ h = absurd h

module _ (f : Renaming) (p : Protocol) (injective : IsInjectiveOn (free_channels p) f) (none : CapturesNone (free_channels p) f p) where
  mirrored : Mirrors (new_names f p) p (renamed f p)
  mirrored = Mirrors-renamed (new_names f p) f p none (λ c h. (h, refl))

  pub outputs-renamed : outputs (renamed f p) ≡ map f (outputs p)
  outputs-renamed = new_list f p _ _ (SameNames-outputs (new_names f p) (IsOneToOne-new_names f p injective) p (renamed f p) mirrored)

  pub free_channels-renamed : free_channels (renamed f p) ≡ map f (free_channels p)
  free_channels-renamed = new_list f p _ _ (SameNames-free_channels (new_names f p) (IsOneToOne-new_names f p injective) p (renamed f p) mirrored)

  pub IsTyped-renamed : (sig : Signature) (scope scope' : Scope) → ((c : Channel) (w : ℕ) → has (free_channels p) c ≡ true → scope c ≡ Some w → scope' (f c) ≡ Some w) → IsTyped sig scope p → IsTyped sig scope' (renamed f p)
  IsTyped-renamed sig scope scope' h t =
      IsTyped-mirrored sig (new_names f p) (IsOneToOne-new_names f p injective) p (renamed f p) mirrored scope scope'
      (λ c c' w k l. subst (λ x. scope' x ≡ Some w) k.1 (h c w k.0 l)) t

  pub protocol_valuation-renamed : (J : Interpretation) (t : List Bool) (i i' : Valuation) → ((c : Channel) → has (free_channels p) c ≡ true → i' (f c) ≡ i c) → (c : Channel) → has (free_channels p) c ≡ true → protocol_valuation J (renamed f p) t i' (f c) ≡ protocol_valuation J p t i c
  protocol_valuation-renamed J t i i' h c k =
      sym (protocol_valuation-mirrored J (new_names f p) (IsOneToOne-new_names f p injective) p (renamed f p) mirrored t i i' (λ d d' l. sym (h d l.0) ∙ ap i' l.1) c (f c) (k, refl))
