-- The right sides of the rules of communication are typed where the left sides are.
use Rattle.std.proofs.Common.{◌≡◌, ◌≢◌, ℕ, true, false, List, [], ◌∷◌, Some, sym, ◌∙◌, subst}
use Rattle.ipdl_laws.proofs.FilledReactions.{reaction_context_at_place, unread_filled, GivesWidth-filled}
use Rattle.ipdl_laws.proofs.HiddenAssignments.{outputs-hidden_assignment}
use Rattle.ipdl_laws.proofs.RewrittenTyping.{GivesWidth-lowered}
use Rattle.ipdl_laws.proofs.ScopesAgree.{IsTyped_agree}
use Rattle.ipdl_laws.proofs.Sets.{by_test, if-false, not_both, same_channel-different, at_same_channel, has-single, not_in_union}
use Rattle.ipdl_laws.specs.ReactionContexts.{filled}
use Rattle.ipdl_rules_p.proofs.SilentParts.{outputs-beside_nothing}
use Rattle.ipdl_rules_p.proofs.Folding.{context_of_lone_read}
use Rattle.ipdl_rules_p.specs.ReadPlaces.{IsReadAt}
use Rattle.ipdl_term.proofs.ChannelSets.{same_channel-itself}
use Rattle.ipdl_term.specs.Channels.{same_channel, has, union, AreDisjoint, reads, outputs}
use Rattle.ipdl_term.specs.Interpretations.{Signature}
use Rattle.ipdl_term.specs.Places.{reaction_or, term_with}
use Rattle.ipdl_term.specs.Rewriting.{lowered_reaction}
use Rattle.ipdl_term.specs.Terms.{Channel, Reaction, reading, binding, Protocol, assignment, parallel, hiding, reaction_term}
use Rattle.ipdl_term.specs.Typing.{Scope, scope_with, GivesWidth, IsTyped, Typed}
use Rattle.ipdl_term.specs.Variables.{reaction_uses}

-- two assignments that write disjoint sets write different channels
pub different_outputs : (a b : Channel) → AreDisjoint (a ∷ []) (b ∷ []) → a ≢ b
different_outputs a b apart e =
    not_both (has (b ∷ []) a) (has-single b a ∙ subst (λ c. same_channel b c ≡ true) (sym e) (same_channel-itself b)) (apart a (has-single a a ∙ same_channel-itself a))

module _ (sig : Signature) (scope : Scope) (written : List Channel) where
  -- a part without the one beside it that writes nothing
  pub Typed-absorb : (p q : Protocol) → outputs q ≡ [] → Typed sig scope (parallel p q) written → Typed sig scope p written
  Typed-absorb p q none t = record { typed = t.typed.0; writes = λ c. sym (outputs-beside_nothing p q none c) ∙ t.writes c }

  -- an assignment that reads its own channel alone
  pub Typed-diverge : (a : Channel) (r : Reaction) → Typed sig scope (assignment a r) written → Typed sig scope (assignment a (reading a)) written
  Typed-diverge a r t = record { typed = (t.typed.0, t.typed.1, t.typed.1); writes = t.writes }

  -- an assignment without its first read
  pub Typed-drop : (a b c : Channel) (w : ℕ) (r s : Reaction) → reaction_uses s 0 ≡ false → Typed sig scope (parallel (assignment a r) (assignment b (binding w (reading c) s))) written → Typed sig scope (parallel (assignment a r) (assignment b (lowered_reaction s))) written
  Typed-drop a b c w r s unused t =
      let second = t.typed.1 in
      record { typed = (t.typed.0, (second.0, second.1, GivesWidth-lowered sig scope [] w s second.0 unused second.2.1), t.typed.2); writes = t.writes }

  -- an assignment with a reaction in the place of a read
  pub Typed-subst : (a b : Channel) (r k : Reaction) (place : List ℕ) → IsReadAt a k place → Typed sig scope (parallel (assignment a r) (assignment b k)) written →
      Typed sig scope (parallel (assignment a r) (assignment b (reaction_or k (term_with (reaction_term k) place (reaction_term r))))) written
  Typed-subst a b r k place at t =
      let C = reaction_context_at_place k place (reading a) at in
      let first = t.typed.0 in
      let second = t.typed.1 in
      let there = GivesWidth-filled sig C.0 scope a first.0 r first.1 first.2 [] second.0 (subst (λ x. GivesWidth sig scope [] x second.0) C.1 second.2) in
      record { typed = (first, (second.0, second.1, subst (λ x. GivesWidth sig scope [] x second.0) (sym (C.2 r)) there), t.typed.2); writes = t.writes }

  -- an assignment with a reaction in the place of the only read of a hidden channel
  pub Typed-fold : (o c : Channel) (w : ℕ) (r k : Reaction) (place : List ℕ) → IsReadAt c k place → ((other : List ℕ) → IsReadAt c k other → other ≡ place) → has (reads r) c ≡ false →
      Typed sig scope (hiding c w (parallel (assignment o k) (assignment c r))) written → Typed sig scope (assignment o (reaction_or k (term_with (reaction_term k) place (reaction_term r)))) written
  Typed-fold o c w r k place at alone unread t =
      let C = context_of_lone_read c k place at alone in
      let inner = scope_with c w scope in
      let of_o = t.typed.1.0 in
      let of_c = t.typed.1.1 in
      let whole = filled C.0 r in
      let apart : same_channel o c ≡ false = same_channel-different o c (different_outputs o c t.typed.1.2) in
      let there : IsTyped sig inner (assignment o whole) = (of_o.0, of_o.1, GivesWidth-filled sig C.0 inner c of_c.0 r of_c.1 of_c.2 [] of_o.0 (subst (λ x. GivesWidth sig inner [] x of_o.0) C.1 of_o.2)) in
      let not_free : has (union (o ∷ []) (reads whole)) c ≡ false = not_in_union (o ∷ []) (reads whole) c (has-single o c ∙ apart) (unread_filled C.0 r c C.2 unread) in
      let outside = IsTyped_agree sig (assignment o whole) inner scope (λ d l. by_test (same_channel c d)
      (λ e. not_both (has (union (o ∷ []) (reads whole)) d) l (at_same_channel (λ z. has (union (o ∷ []) (reads whole)) z ≡ false) c d e not_free))
      (λ e. if-false (same_channel c d) (Some w) (scope d) e)) there in
      record { typed = subst (λ x. IsTyped sig scope (assignment o x)) (sym (C.3 r)) outside; writes = λ d. sym (outputs-hidden_assignment o c w k r apart d) ∙ t.writes d }
