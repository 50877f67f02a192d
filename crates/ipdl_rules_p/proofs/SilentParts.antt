-- The rules on a part that writes nothing, and on an assignment that waits for itself.
use Rattle.std.proofs.Common.{◌≡◌, ◌≤◌, Bool, true, false, ◌||◌, List, [], ◌∷◌, length, Some, None, is_some, take, drop, refl, sym, ap, ◌∙◌, arith}
use mathlib.Core.Path.{fun_ext}
use Rattle.ipdl_laws.proofs.FurtherBits.{protocol_valuation-take}
use Rattle.ipdl_laws.proofs.Monotone.{WritesOnly-protocol_valuation, rounds_reach_the_least}
use Rattle.ipdl_laws.proofs.ReadingLaws.{must_be_written}
use Rattle.ipdl_laws.proofs.Sets.{by_test, if-true, if-false, or_comm, has-single}
use Rattle.ipdl_laws.proofs.Structure.{protocol_valuation_outside, alike_by_valuations}
use Rattle.ipdl_laws.specs.Alike.{Alike}
use Rattle.ipdl_term.proofs.ChannelSets.{same_channel-itself, has-union}
use Rattle.ipdl_term.specs.Channels.{has, SameSet, must_reads, outputs}
use Rattle.ipdl_term.specs.Interpretations.{Interpretation}
use Rattle.ipdl_term.specs.Protocols.{coins, written, protocol_valuation}
use Rattle.ipdl_term.specs.Reactions.{Outcome, with_tape, reaction_outcome}
use Rattle.ipdl_term.specs.Terms.{Value, Channel, Reaction, reading, Protocol, assignment, parallel}
use Rattle.ipdl_term.specs.Typing.{Scope}
use Rattle.ipdl_term.specs.Valuations.{Valuation, all_taken_out}

-- ---- a part that writes nothing

-- beside it a part writes the same channels
pub outputs-beside_nothing : (p q : Protocol) → outputs q ≡ [] → SameSet (outputs (parallel p q)) (outputs p)
outputs-beside_nothing p q none c =
    has-union (outputs p) (outputs q) c ∙ or_comm (has (outputs p) c) (has (outputs q) c) ∙ ap (λ cs. has cs c || has (outputs p) c) none

module _ (J : Interpretation) where
  -- and the same values
  absorb_same : (p q : Protocol) → outputs q ≡ [] → (t : List Bool) → coins p ≤ length t → (inputs : Valuation) → protocol_valuation J (parallel p q) t inputs ≡ protocol_valuation J p t inputs
  absorb_same p q no_output t h inputs =
      let cs = outputs (parallel p q) in
      let left = protocol_valuation J p (take (coins p) t) in
      let stripped = all_taken_out cs inputs in
      let none : (c : Channel) → has (outputs q) c ≡ false = λ c. ap (λ ds. has ds c) no_output in
      sym ((rounds_reach_the_least J p q t inputs).0) ∙
      fun_ext (λ c. by_test (has (outputs p) c)
      (λ e. if-true (has (outputs p) c) _ _ e ∙ ap (λ x. left x c) (fun_ext (λ d. if-false (has (outputs q) d) _ _ (none d))))
      (λ e. if-false (has (outputs p) c) _ _ e ∙ WritesOnly-protocol_valuation J q (drop (coins p) t) _ c (none c) ∙ sym (WritesOnly-protocol_valuation J p (take (coins p) t) stripped c e))) ∙
      ap (λ f. f stripped) (protocol_valuation-take J p (coins p) t (omega arith) h) ∙
      protocol_valuation_outside J p t _ _ (λ d k. if-false (has cs d) _ _ (outputs-beside_nothing p q no_output d ∙ k))

  pub alike_absorb : (scope : Scope) (p q : Protocol) → outputs q ≡ [] → Alike J scope (parallel p q) p
  alike_absorb scope p q none = alike_by_valuations J scope (parallel p q) p (outputs-beside_nothing p q none) (λ t h k. absorb_same p q none t k)

  -- ---- a read of the channel that is written

  -- a reaction that gives no value is stuck
  pub reaction_outcome-stuck : (r : Reaction) (t : List Bool) (inputs : Valuation) → ((x : Value × List Bool) → reaction_outcome J r [] inputs t ≡ Some x → ⊥) → reaction_outcome J r [] inputs t ≡ None
  reaction_outcome-stuck r t inputs stuck = go (reaction_outcome J r [] inputs t) refl
    where
      go : (o : Outcome) → reaction_outcome J r [] inputs t ≡ o → o ≡ None
      go None e = refl
      go (Some x) e = absurd (stuck x e)

  -- an assignment that must read its own channel
  pub alike_diverge : (scope : Scope) (a : Channel) (r : Reaction) → has (must_reads r) a ≡ true → Alike J scope (assignment a r) (assignment a (reading a))
  alike_diverge scope a r must =
      alike_by_valuations J scope (assignment a r) (assignment a (reading a)) (λ c. refl)
      (λ t h k inputs.
      let seen : Valuation = all_taken_out (a ∷ []) inputs in
      let unseen : seen a ≡ None = if-true (has (a ∷ []) a) _ _ (has-single a a ∙ same_channel-itself a) in
      ap (written a) (
      reaction_outcome-stuck r t seen (λ x e. let k : false ≡ true = sym (ap is_some unseen) ∙ must_be_written J r [] seen t x e a must in cc) ∙
      sym (ap (λ o. with_tape o t) unseen)))
