-- Mirrored terms: of one shape, with channels that stand for one another. They do the same.
use Rattle.std.proofs.Common.{◌≡◌, ℕ, zero, suc, ◌+◌, ◌≤◌, max, Bool, true, false, List, [], ◌∷◌, length, Some, None, take, drop, refl, sym, ap, ap₂, ◌∙◌, subst}
use Rattle.std.specs.Prelude.{if◌then◌else◌}
use mathlib.Core.Path.{fun_ext}
use Rattle.ipdl_term.specs.Channels.{same_channel, has, without, reads, outputs, free_channels}
use Rattle.ipdl_term.specs.Interpretations.{Signature, Interpretation}
use Rattle.ipdl_term.specs.Protocols.{coins, written, after_rounds, round, protocol_valuation}
use Rattle.ipdl_term.specs.Reactions.{Outcome, with_tape, continued, reaction_outcome, reaction_coins}
use Rattle.ipdl_term.specs.Terms.{Value, Channel, Reaction, returning, flipping, reading, branching, binding, Protocol, nil, assignment, parallel, hiding}
use Rattle.ipdl_term.specs.Typing.{Scope, scope_with, HasWidth, GivesWidth, IsTyped}
use Rattle.ipdl_term.specs.Valuations.{Valuation, combined, taken_out, all_taken_out}
use Rattle.ipdl_term.proofs.ChannelSets.{same_channel-itself, has-without}
use Rattle.ipdl_laws.proofs.Monotone.{WritesOnly-protocol_valuation}
use Rattle.ipdl_laws.proofs.Sets.{by_test, if-true, if-false, if_same, not_both}
use Rattle.ipdl_laws.proofs.Pairings.{Pairing, IsOneToOne, below, IsOneToOne-below, SameNames, SameNames-has, SameNames-length, SameNames-union, SameNames-without, AreDisjoint-paired}

-- ---- of one shape

-- reactions of one shape
abbrev pub MirrorsReaction : Pairing → Reaction → Reaction → Type 0
MirrorsReaction R (returning e) (returning e') = e ≡ e'
MirrorsReaction R (flipping w) (flipping w') = w ≡ w'
MirrorsReaction R (reading c) (reading c') = R c c'
MirrorsReaction R (branching e r s) (branching e' r' s') = (e ≡ e') × MirrorsReaction R r r' × MirrorsReaction R s s'
MirrorsReaction R (binding w r s) (binding w' r' s') = (w ≡ w') × MirrorsReaction R r r' × MirrorsReaction R s s'
MirrorsReaction R _ _ = ⊥

-- protocols of one shape
abbrev pub Mirrors : Pairing → Protocol → Protocol → Type 0
Mirrors R nil nil = Unit {0}
Mirrors R (assignment c r) (assignment c' r') = R c c' × MirrorsReaction R r r'
Mirrors R (parallel p q) (parallel p' q') = Mirrors R p p' × Mirrors R q q'
Mirrors R (hiding c w p) (hiding c' w' p') = (w ≡ w') × Mirrors (below c c' R) p p'
Mirrors R _ _ = ⊥

-- the other way round
pub MirrorsReaction-turned : (R S : Pairing) → ((c c' : Channel) → R c c' → S c' c) → (r r' : Reaction) → MirrorsReaction R r r' → MirrorsReaction S r' r
MirrorsReaction-turned R S turn (returning e) (returning e') h = sym h
MirrorsReaction-turned R S turn (flipping w) (flipping w') h = sym h
MirrorsReaction-turned R S turn (reading c) (reading c') h = turn c c' h
MirrorsReaction-turned R S turn (branching e r s) (branching e' r' s') h = (sym h.0, MirrorsReaction-turned R S turn r r' h.1, MirrorsReaction-turned R S turn s s' h.2)
MirrorsReaction-turned R S turn (binding w r s) (binding w' r' s') h = (sym h.0, MirrorsReaction-turned R S turn r r' h.1, MirrorsReaction-turned R S turn s s' h.2)
MirrorsReaction-turned R S turn _ _ h = absurd h

pub Mirrors-turned : (R S : Pairing) → ((c c' : Channel) → R c c' → S c' c) → (p p' : Protocol) → Mirrors R p p' → Mirrors S p' p
Mirrors-turned R S turn nil nil h = tt
Mirrors-turned R S turn (assignment c r) (assignment c' r') h = (turn c c' h.0, MirrorsReaction-turned R S turn r r' h.1)
Mirrors-turned R S turn (parallel p q) (parallel p' q') h = (Mirrors-turned R S turn p p' h.0, Mirrors-turned R S turn q q' h.1)
Mirrors-turned R S turn (hiding c w p) (hiding c' w' p') h =
    (sym h.0, Mirrors-turned (below c c' R) (below c' c S) (λ d d' k. (sym k.0, λ l. turn d d' (k.1 (k.0 ∙ l)))) p p' h.1)
Mirrors-turned R S turn _ _ h = absurd h

-- ---- their channels

module _ (R : Pairing) (one : IsOneToOne R) where
  pub SameNames-reads : (r r' : Reaction) → MirrorsReaction R r r' → SameNames R (reads r) (reads r')
  SameNames-reads (returning e) (returning e') h = tt
  SameNames-reads (flipping w) (flipping w') h = tt
  SameNames-reads (reading c) (reading c') h = (h, tt)
  SameNames-reads (branching e r s) (branching e' r' s') h =
      SameNames-union R one (reads r) (reads r') (reads s) (reads s') (SameNames-reads r r' h.1) (SameNames-reads s s' h.2)
  SameNames-reads (binding w r s) (binding w' r' s') h =
      SameNames-union R one (reads r) (reads r') (reads s) (reads s') (SameNames-reads r r' h.1) (SameNames-reads s s' h.2)
  SameNames-reads _ _ h = absurd h

pub SameNames-outputs : (R : Pairing) → IsOneToOne R → (p p' : Protocol) → Mirrors R p p' → SameNames R (outputs p) (outputs p')
SameNames-outputs R one nil nil h = tt
SameNames-outputs R one (assignment c r) (assignment c' r') h = (h.0, tt)
SameNames-outputs R one (parallel p q) (parallel p' q') h =
    SameNames-union R one (outputs p) (outputs p') (outputs q) (outputs q') (SameNames-outputs R one p p' h.0) (SameNames-outputs R one q q' h.1)
SameNames-outputs R one (hiding c w p) (hiding c' w' p') h =
    SameNames-without R c c' (outputs p) (outputs p') (SameNames-outputs (below c c' R) (IsOneToOne-below R c c' one) p p' h.1)
SameNames-outputs R one _ _ h = absurd h

pub SameNames-free_channels : (R : Pairing) → IsOneToOne R → (p p' : Protocol) → Mirrors R p p' → SameNames R (free_channels p) (free_channels p')
SameNames-free_channels R one nil nil h = tt
SameNames-free_channels R one (assignment c r) (assignment c' r') h =
    SameNames-union R one (c ∷ []) (c' ∷ []) (reads r) (reads r') (h.0, tt) (SameNames-reads R one r r' h.1)
SameNames-free_channels R one (parallel p q) (parallel p' q') h =
    SameNames-union R one (free_channels p) (free_channels p') (free_channels q) (free_channels q') (SameNames-free_channels R one p p' h.0) (SameNames-free_channels R one q q' h.1)
SameNames-free_channels R one (hiding c w p) (hiding c' w' p') h =
    SameNames-without R c c' (free_channels p) (free_channels p') (SameNames-free_channels (below c c' R) (IsOneToOne-below R c c' one) p p' h.1)
SameNames-free_channels R one _ _ h = absurd h

-- ---- what they do

-- as many coins
pub reaction_coins-mirrored : (R : Pairing) (r r' : Reaction) → MirrorsReaction R r r' → reaction_coins r ≡ reaction_coins r'
reaction_coins-mirrored R (returning e) (returning e') h = refl
reaction_coins-mirrored R (flipping w) (flipping w') h = h
reaction_coins-mirrored R (reading c) (reading c') h = refl
reaction_coins-mirrored R (branching e r s) (branching e' r' s') h = ap₂ max (reaction_coins-mirrored R r r' h.1) (reaction_coins-mirrored R s s' h.2)
reaction_coins-mirrored R (binding w r s) (binding w' r' s') h = ap₂ ◌+◌ (reaction_coins-mirrored R r r' h.1) (reaction_coins-mirrored R s s' h.2)
reaction_coins-mirrored R _ _ h = absurd h

pub coins-mirrored : (R : Pairing) (p p' : Protocol) → Mirrors R p p' → coins p ≡ coins p'
coins-mirrored R nil nil h = refl
coins-mirrored R (assignment c r) (assignment c' r') h = reaction_coins-mirrored R r r' h.1
coins-mirrored R (parallel p q) (parallel p' q') h = ap₂ ◌+◌ (coins-mirrored R p p' h.0) (coins-mirrored R q q' h.1)
coins-mirrored R (hiding c w p) (hiding c' w' p') h = coins-mirrored (below c c' R) p p' h.1
coins-mirrored R _ _ h = absurd h

-- the same values at channels that stand for one another
abbrev pub AgreeThrough : Pairing → Valuation → Valuation → Type 0
AgreeThrough R i i' = (c c' : Channel) → R c c' → i c ≡ i' c'

module _ (J : Interpretation) where
  pub reaction_outcome-mirrored : (R : Pairing) (r r' : Reaction) → MirrorsReaction R r r' → (env : List Value) (i i' : Valuation) (t : List Bool) → AgreeThrough R i i' → reaction_outcome J r env i t ≡ reaction_outcome J r' env i' t
  reaction_outcome-mirrored R (returning e) (returning e') h env i i' t k = ap (λ x. reaction_outcome J (returning x) env i t) h
  reaction_outcome-mirrored R (flipping w) (flipping w') h env i i' t k = ap (λ x. reaction_outcome J (flipping x) env i t) h
  reaction_outcome-mirrored R (reading c) (reading c') h env i i' t k = ap (λ o. with_tape o t) (k c c' h)
  reaction_outcome-mirrored R (branching e r s) (branching e' r' s') h env i i' t k =
      rw (h.0, reaction_outcome-mirrored R r r' h.1 env i i' t k, reaction_outcome-mirrored R s s' h.2 env i i' t k)
  reaction_outcome-mirrored R (binding w r s) (binding w' r' s') h env i i' t k =
      ap (λ o. continued o (λ v rest. reaction_outcome J s (v ∷ env) i rest)) (reaction_outcome-mirrored R r r' h.1 env i i' t k) ∙
      ap (continued (reaction_outcome J r' env i' t)) (fun_ext (λ v. fun_ext (λ rest. reaction_outcome-mirrored R s s' h.2 (v ∷ env) i i' rest k)))
  reaction_outcome-mirrored R _ _ h env i i' t k = absurd h

-- valuations that are put together alike
AgreeThrough-combined : (R : Pairing) (cs cs' : List Channel) (a a' b b' : Valuation) → ((d d' : Channel) → R d d' → has cs d ≡ has cs' d') → AgreeThrough R a a' → AgreeThrough R b b' → AgreeThrough R (combined cs a b) (combined cs' a' b')
AgreeThrough-combined R cs cs' a a' b b' same h k d d' l =
    ap (λ x. if x then a d else b d) (same d d' l) ∙ if_same (has cs' d') _ _ _ _ (λ e. h d d' l) (λ e. k d d' l)

AgreeThrough-all_taken_out : (R : Pairing) (cs cs' : List Channel) (i i' : Valuation) → ((d d' : Channel) → R d d' → has cs d ≡ has cs' d') → AgreeThrough R i i' → AgreeThrough R (all_taken_out cs i) (all_taken_out cs' i')
AgreeThrough-all_taken_out R cs cs' i i' same h d d' l =
    ap (λ x. if x then None else i d) (same d d' l) ∙ if_same (has cs' d') _ _ _ _ (λ e. refl) (λ e. h d d' l)

AgreeThrough-written : (R : Pairing) → IsOneToOne R → (c c' : Channel) → R c c' → (o : Outcome) → AgreeThrough R (written c o) (written c' o)
AgreeThrough-written R one c c' h None d d' k = refl
AgreeThrough-written R one c c' h (Some o) d d' k = ap (λ x. if x then Some o.0 else None) (one c c' d d' h k)

AgreeThrough-after_rounds : (R : Pairing) (F F' : Valuation → Valuation) → ((s s' : Valuation) → AgreeThrough R s s' → AgreeThrough R (F s) (F' s')) → (n : ℕ) → AgreeThrough R (after_rounds n F) (after_rounds n F')
AgreeThrough-after_rounds R F F' h zero = λ d d' k. refl
AgreeThrough-after_rounds R F F' h (suc n) = h _ _ (AgreeThrough-after_rounds R F F' h n)

-- below hidden channels
AgreeThrough-below : (R : Pairing) (c c' : Channel) (i i' : Valuation) → AgreeThrough R i i' → AgreeThrough (below c c' R) (taken_out c i) (taken_out c' i')
AgreeThrough-below R c c' i i' h d d' k =
    ap (λ x. if x then None else i d) k.0 ∙ if_same (same_channel c' d') _ _ _ _ (λ e. refl) (λ e. h d d' (k.1 (k.0 ∙ e)))

-- a set without a channel does not have it
not_taken_out : (c : Channel) (cs : List Channel) (d : Channel) → has (without c cs) d ≡ true → same_channel c d ≡ false
not_taken_out c cs d h = by_test (same_channel c d)
    (λ e. not_both (has (without c cs) d) h (has-without c cs d ∙ if-true (same_channel c d) _ _ e))
    (λ e. e)

module _ (J : Interpretation) where
  pub protocol_valuation-mirrored : (R : Pairing) → IsOneToOne R → (p p' : Protocol) → Mirrors R p p' → (t : List Bool) (i i' : Valuation) → AgreeThrough R i i' → AgreeThrough R (protocol_valuation J p t i) (protocol_valuation J p' t i')
  protocol_valuation-mirrored R one nil nil h t i i' k d d' l = refl
  protocol_valuation-mirrored R one (assignment c r) (assignment c' r') h t i i' k d d' l =
      ap (λ o. written c o d) (reaction_outcome-mirrored J R r r' h.1 [] _ _ t (AgreeThrough-all_taken_out R (c ∷ []) (c' ∷ []) i i' (SameNames-has R one (c ∷ []) (c' ∷ []) (h.0, tt)) k)) ∙
      AgreeThrough-written R one c c' h.0 (reaction_outcome J r' [] (all_taken_out (c' ∷ []) i') t) d d' l
  protocol_valuation-mirrored R one (parallel p q) (parallel p' q') h t i i' k d d' l =
      let outs_p = SameNames-outputs R one p p' h.0 in
      let outs_q = SameNames-outputs R one q q' h.1 in
      let outs = SameNames-union R one (outputs p) (outputs p') (outputs q) (outputs q') outs_p outs_q in
      let seen = AgreeThrough-all_taken_out R (outputs (parallel p q)) (outputs (parallel p' q')) i i' (SameNames-has R one (outputs (parallel p q)) (outputs (parallel p' q')) outs) k in
      let step : List Bool → List Bool → Valuation → Valuation = λ u v. round (outputs p) (outputs q) (protocol_valuation J p u) (protocol_valuation J q v) (all_taken_out (outputs (parallel p q)) i) in
      let step' : Valuation → Valuation = round (outputs p') (outputs q') (protocol_valuation J p' (take (coins p') t)) (protocol_valuation J q' (drop (coins p') t)) (all_taken_out (outputs (parallel p' q')) i') in
      ap₂ (λ n m. after_rounds (suc n) (step (take m t) (drop m t)) d) (SameNames-length R (outputs (parallel p q)) (outputs (parallel p' q')) outs) (coins-mirrored R p p' h.0) ∙
      AgreeThrough-after_rounds R (step (take (coins p') t) (drop (coins p') t)) step'
      (λ s s' m. AgreeThrough-combined R (outputs p) (outputs p') _ _ _ _ (SameNames-has R one (outputs p) (outputs p') outs_p)
      (protocol_valuation-mirrored R one p p' h.0 (take (coins p') t) _ _ (AgreeThrough-combined R (outputs q) (outputs q') s s' _ _ (SameNames-has R one (outputs q) (outputs q') outs_q) m seen))
      (protocol_valuation-mirrored R one q q' h.1 (drop (coins p') t) _ _ (AgreeThrough-combined R (outputs p) (outputs p') s s' _ _ (SameNames-has R one (outputs p) (outputs p') outs_p) m seen)))
      (suc (length (outputs (parallel p' q')))) d d' l
  protocol_valuation-mirrored R one (hiding c w p) (hiding c' w' p') h t i i' k d d' l =
      let same : (e e' : Channel) → R e e' → has (outputs (hiding c w p)) e ≡ has (outputs (hiding c' w' p')) e' =
      SameNames-has R one (outputs (hiding c w p)) (outputs (hiding c' w' p')) (SameNames-outputs R one (hiding c w p) (hiding c' w' p') h) in
      let seen = AgreeThrough-below R c c' _ _ (AgreeThrough-all_taken_out R (outputs (hiding c w p)) (outputs (hiding c' w' p')) i i' same k) in
      by_test (has (outputs (hiding c w p)) d)
      (λ e. let other = not_taken_out c (outputs p) d e in
      let other' = not_taken_out c' (outputs p') d' (sym (same d d' l) ∙ e) in
      if-false (same_channel c d) _ _ other ∙
      protocol_valuation-mirrored (below c c' R) (IsOneToOne-below R c c' one) p p' h.1 t _ _ seen d d' (other ∙ sym other', λ m. l) ∙
      sym (if-false (same_channel c' d') _ _ other'))
      (λ e. WritesOnly-protocol_valuation J (hiding c w p) t i d e ∙ sym (WritesOnly-protocol_valuation J (hiding c' w' p') t i' d' (sym (same d d' l) ∙ e)))
  protocol_valuation-mirrored R one _ _ h t i i' k d d' l = absurd h

-- ---- their types

-- channels that stand for visible ones are visible with the same widths
abbrev pub IsVisibleThrough : Pairing → Scope → Scope → Type 0
IsVisibleThrough R scope scope' = (c c' : Channel) (w : ℕ) → R c c' → scope c ≡ Some w → scope' c' ≡ Some w

pub IsVisibleThrough-below : (R : Pairing) (c c' : Channel) (w : ℕ) (scope scope' : Scope) → IsVisibleThrough R scope scope' → IsVisibleThrough (below c c' R) (scope_with c w scope) (scope_with c' w scope')
IsVisibleThrough-below R c c' w scope scope' h d d' v k l = by_test (same_channel c d)
    (λ e. if-true (same_channel c' d') _ _ (sym k.0 ∙ e) ∙ sym (if-true (same_channel c d) (Some w) (scope d) e) ∙ l)
    (λ e. if-false (same_channel c' d') _ _ (sym k.0 ∙ e) ∙ h d d' v (k.1 e) (sym (if-false (same_channel c d) (Some w) (scope d) e) ∙ l))

module _ (sig : Signature) where
  GivesWidth-mirrored : (R : Pairing) (r r' : Reaction) → MirrorsReaction R r r' → (scope scope' : Scope) → IsVisibleThrough R scope scope' → (widths : List ℕ) (w : ℕ) → GivesWidth sig scope widths r w → GivesWidth sig scope' widths r' w
  GivesWidth-mirrored R (returning e) (returning e') h scope scope' k widths w t = subst (λ x. HasWidth sig widths x w) h t
  GivesWidth-mirrored R (flipping n) (flipping n') h scope scope' k widths w t = (sym h ∙ t.0, t.1)
  GivesWidth-mirrored R (reading c) (reading c') h scope scope' k widths w t = k c c' w h t
  GivesWidth-mirrored R (branching e r s) (branching e' r' s') h scope scope' k widths w t =
      (subst (λ x. HasWidth sig widths x 1) h.0 t.0, GivesWidth-mirrored R r r' h.1 scope scope' k widths w t.1, GivesWidth-mirrored R s s' h.2 scope scope' k widths w t.2)
  GivesWidth-mirrored R (binding v r s) (binding v' r' s') h scope scope' k widths w t = (
    GivesWidth-mirrored R r r' h.1 scope scope' k widths v' (subst (GivesWidth sig scope widths r) h.0 t.0),
    GivesWidth-mirrored R s s' h.2 scope scope' k (v' ∷ widths) w (subst (λ x. GivesWidth sig scope (x ∷ widths) s w) h.0 t.1),
  )
  GivesWidth-mirrored R _ _ h scope scope' k widths w t = absurd h

  pub IsTyped-mirrored : (R : Pairing) → IsOneToOne R → (p p' : Protocol) → Mirrors R p p' → (scope scope' : Scope) → IsVisibleThrough R scope scope' → IsTyped sig scope p → IsTyped sig scope' p'
  IsTyped-mirrored R one nil nil h scope scope' k t = tt
  IsTyped-mirrored R one (assignment c r) (assignment c' r') h scope scope' k t =
      (t.0, k c c' t.0 h.0 t.1, GivesWidth-mirrored R r r' h.1 scope scope' k [] t.0 t.2)
  IsTyped-mirrored R one (parallel p q) (parallel p' q') h scope scope' k t = (
    IsTyped-mirrored R one p p' h.0 scope scope' k t.0,
    IsTyped-mirrored R one q q' h.1 scope scope' k t.1,
    AreDisjoint-paired R one (outputs p) (outputs p') (outputs q) (outputs q') (SameNames-outputs R one p p' h.0) (SameNames-outputs R one q q' h.1) t.2,
  )
  IsTyped-mirrored R one (hiding c w p) (hiding c' w' p') h scope scope' k t =
      let both = IsOneToOne-below R c c' one in
      let itself : same_channel c c ≡ same_channel c' c' = same_channel-itself c ∙ sym (same_channel-itself c') in (
        subst (λ x. x ≤ 128) h.0 t.0,
        subst (λ x. IsTyped sig (scope_with c' x scope') p') h.0 (IsTyped-mirrored (below c c' R) both p p' h.1 (scope_with c w scope) (scope_with c' w scope') (IsVisibleThrough-below R c c' w scope scope' k) t.1),
        sym (SameNames-has (below c c' R) both (outputs p) (outputs p') (SameNames-outputs (below c c' R) both p p' h.1) c c' (itself, λ l. not_both (same_channel c c) (same_channel-itself c) l)) ∙ t.2,
      )
  IsTyped-mirrored R one _ _ h scope scope' k t = absurd h
