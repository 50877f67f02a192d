-- The two sides of a rule of communication are equal.
use Rattle.std.proofs.Common.{◌≡◌, ℕ, true, false, List, []}
use Rattle.ipdl_laws.proofs.ClosedReactions.{typed_is_closed}
use Rattle.ipdl_laws.proofs.Soundness.{alike_is_equal}
use Rattle.ipdl_rules_p.proofs.CommunicationTyping.{different_outputs, Typed-absorb, Typed-diverge, Typed-drop, Typed-subst, Typed-fold}
use Rattle.ipdl_rules_p.proofs.Folding.{alike_fold}
use Rattle.ipdl_rules_p.proofs.IdleReads.{alike_drop, alike_subsume}
use Rattle.ipdl_rules_p.specs.ReadPlaces.{IsReadAt}
use Rattle.ipdl_rules_p.proofs.SilentParts.{alike_absorb, alike_diverge}
use Rattle.ipdl_rules_p.proofs.Substituting.{alike_subst}
use Rattle.ipdl_term.specs.Channels.{has, IsWithin, reads, must_reads, outputs}
use Rattle.ipdl_term.specs.Equality.{Equal}
use Rattle.ipdl_term.specs.Interpretations.{Signature}
use Rattle.ipdl_term.specs.Places.{reaction_or, term_with}
use Rattle.ipdl_term.specs.Rewriting.{lowered_reaction}
use Rattle.ipdl_term.specs.Terms.{Channel, Reaction, reading, binding, Protocol, assignment, parallel, hiding, reaction_term}
use Rattle.ipdl_term.specs.Typing.{Scope, scope_with, Typed}
use Rattle.ipdl_term.specs.Variables.{reaction_uses, has_flip, lifted_reaction}

module _ (sig : Signature) (scope : Scope) (written : List Channel) where
  pub absorb_is_equal : (p q : Protocol) → outputs q ≡ [] → Typed sig scope (parallel p q) written → Equal sig scope written (parallel p q) p
  absorb_is_equal p q none t = alike_is_equal sig scope written (parallel p q) p t (Typed-absorb sig scope written p q none t) (λ J i. alike_absorb J scope p q none)

  pub diverge_is_equal : (a : Channel) (r : Reaction) → has (must_reads r) a ≡ true → Typed sig scope (assignment a r) written → Equal sig scope written (assignment a r) (assignment a (reading a))
  diverge_is_equal a r must t = alike_is_equal sig scope written (assignment a r) (assignment a (reading a)) t (Typed-diverge sig scope written a r t) (λ J i. alike_diverge J scope a r must)

  pub drop_is_equal : (a b : Channel) (w : ℕ) (r s : Reaction) → reaction_uses s 0 ≡ false → IsWithin (reads r) (must_reads s) →
      Typed sig scope (parallel (assignment a r) (assignment b (binding w (reading a) s))) written →
      Equal sig scope written (parallel (assignment a r) (assignment b (binding w (reading a) s))) (parallel (assignment a r) (assignment b (lowered_reaction s)))
  drop_is_equal a b w r s unused within t =
      alike_is_equal sig scope written (parallel (assignment a r) (assignment b (binding w (reading a) s))) (parallel (assignment a r) (assignment b (lowered_reaction s))) t (Typed-drop sig scope written a b a w r s unused t)
      (λ J i. alike_drop J r s unused within scope a b w (different_outputs a b t.typed.2))

  pub subsume_is_equal : (a b c : Channel) (w : ℕ) (r s : Reaction) → has (must_reads s) a ≡ true → has (must_reads r) c ≡ true →
      Typed sig scope (parallel (assignment a r) (assignment b s)) written → Typed sig scope (parallel (assignment a r) (assignment b (binding w (reading c) (lifted_reaction s 0 1)))) written →
      Equal sig scope written (parallel (assignment a r) (assignment b s)) (parallel (assignment a r) (assignment b (binding w (reading c) (lifted_reaction s 0 1))))
  subsume_is_equal a b c w r s must_s must_r t t' =
      alike_is_equal sig scope written (parallel (assignment a r) (assignment b s)) (parallel (assignment a r) (assignment b (binding w (reading c) (lifted_reaction s 0 1)))) t t'
      (λ J i. alike_subsume J scope a b c w r s (different_outputs a b t.typed.2) must_s must_r)

  pub subst_is_equal : (a b : Channel) (r k : Reaction) (place : List ℕ) → IsReadAt a k place → has_flip r ≡ false → Typed sig scope (parallel (assignment a r) (assignment b k)) written →
      Equal sig scope written (parallel (assignment a r) (assignment b k)) (parallel (assignment a r) (assignment b (reaction_or k (term_with (reaction_term k) place (reaction_term r)))))
  subst_is_equal a b r k place at no_flip t =
      let whole = reaction_or k (term_with (reaction_term k) place (reaction_term r)) in
      let closed = typed_is_closed sig scope r t.typed.0.0 t.typed.0.2 in
      alike_is_equal sig scope written (parallel (assignment a r) (assignment b k)) (parallel (assignment a r) (assignment b whole)) t (Typed-subst sig scope written a b r k place at t)
      (λ J i. alike_subst J scope a b r (different_outputs a b t.typed.2) no_flip closed k place at)

  pub fold_is_equal : (o c : Channel) (w : ℕ) (r k : Reaction) (place : List ℕ) → IsReadAt c k place → ((other : List ℕ) → IsReadAt c k other → other ≡ place) → has (reads r) c ≡ false →
      Typed sig scope (hiding c w (parallel (assignment o k) (assignment c r))) written →
      Equal sig scope written (hiding c w (parallel (assignment o k) (assignment c r))) (assignment o (reaction_or k (term_with (reaction_term k) place (reaction_term r))))
  fold_is_equal o c w r k place at alone unread t =
      let whole = reaction_or k (term_with (reaction_term k) place (reaction_term r)) in
      let of_c = t.typed.1.1 in
      let closed = typed_is_closed sig (scope_with c w scope) r of_c.0 of_c.2 in
      alike_is_equal sig scope written (hiding c w (parallel (assignment o k) (assignment c r))) (assignment o whole) t (Typed-fold sig scope written o c w r k place at alone unread t)
      (λ J i. alike_fold J scope o c w r (different_outputs o c t.typed.1.2) unread closed k place at alone)
