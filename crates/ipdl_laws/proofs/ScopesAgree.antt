-- A term is typed in each scope that gives its channels the same widths.
use Rattle.std.proofs.Common.{◌≡◌, ℕ, true, List, [], ◌∷◌, Some, refl, sym, ◌∙◌}
use Rattle.ipdl_term.specs.Channels.{same_channel, has, reads, free_channels}
use Rattle.ipdl_term.specs.Interpretations.{Signature}
use Rattle.ipdl_term.specs.Terms.{Channel, Reaction, returning, flipping, reading, branching, binding, Protocol, nil, assignment, parallel, hiding}
use Rattle.ipdl_term.specs.Typing.{Scope, scope_with, GivesWidth, IsTyped}
use Rattle.ipdl_laws.proofs.Sets.{if_same, has-single, in_union_left, in_union_right, has-without}
use Rattle.ipdl_term.proofs.ChannelSets.{same_channel-itself}

module _ (sig : Signature) where
  -- a reaction is typed where the channels that it reads have the same widths
  GivesWidth_agree : (r : Reaction) (scope scope' : Scope) (widths : List ℕ) (w : ℕ) → ((c : Channel) → has (reads r) c ≡ true → scope c ≡ scope' c) → GivesWidth sig scope widths r w → GivesWidth sig scope' widths r w
  GivesWidth_agree (returning e) scope scope' widths w h t = t
  GivesWidth_agree (flipping n) scope scope' widths w h t = t
  GivesWidth_agree (reading c) scope scope' widths w h t = sym (h c (has-single c c ∙ same_channel-itself c)) ∙ t
  GivesWidth_agree (branching e r s) scope scope' widths w h t = (
    t.0,
    GivesWidth_agree r scope scope' widths w (λ c k. h c (in_union_left (reads r) (reads s) c k)) t.1,
    GivesWidth_agree s scope scope' widths w (λ c k. h c (in_union_right (reads r) (reads s) c k)) t.2,
  )
  GivesWidth_agree (binding v r s) scope scope' widths w h t = (
    GivesWidth_agree r scope scope' widths v (λ c k. h c (in_union_left (reads r) (reads s) c k)) t.0,
    GivesWidth_agree s scope scope' (v ∷ widths) w (λ c k. h c (in_union_right (reads r) (reads s) c k)) t.1,
  )

  -- a protocol is typed where its free channels have the same widths
  pub IsTyped_agree : (p : Protocol) (scope scope' : Scope) → ((c : Channel) → has (free_channels p) c ≡ true → scope c ≡ scope' c) → IsTyped sig scope p → IsTyped sig scope' p
  IsTyped_agree nil scope scope' h t = tt
  IsTyped_agree (assignment c r) scope scope' h t = (
    t.0,
    sym (h c (in_union_left (c ∷ []) (reads r) c (has-single c c ∙ same_channel-itself c))) ∙ t.1,
    GivesWidth_agree r scope scope' [] t.0 (λ d k. h d (in_union_right (c ∷ []) (reads r) d k)) t.2,
  )
  IsTyped_agree (parallel p q) scope scope' h t = (
    IsTyped_agree p scope scope' (λ c k. h c (in_union_left (free_channels p) (free_channels q) c k)) t.0,
    IsTyped_agree q scope scope' (λ c k. h c (in_union_right (free_channels p) (free_channels q) c k)) t.1,
    t.2,
  )
  IsTyped_agree (hiding c w p) scope scope' h t = (
    t.0,
    IsTyped_agree p (scope_with c w scope) (scope_with c w scope') (λ d k. if_same (same_channel c d) (Some w) (Some w) (scope d) (scope' d) (λ e. refl) (λ e. h d (has-without c (free_channels p) d e ∙ k))) t.1,
    t.2,
  )
