-- A tidy form does what the reaction does, has its width, and may stand in its place.
use Rattle.std.proofs.Common.{◌≡◌, ℕ, zero, Bool, List, [], ◌∷◌, Some, None, refl, sym, ap, ◌∙◌, subst}
use Rattle.ipdl_laws.proofs.PartLaws.{equal_with_part}
use Rattle.ipdl_laws.proofs.PlacedReactions.{typed_with_reaction}
use Rattle.ipdl_laws.proofs.Rewritten.{continued_equal}
use Rattle.ipdl_laws.proofs.RewrittenTyping.{GivesWidth-put, GivesWidth-lifted}
use Rattle.ipdl_laws.proofs.Substitution.{outcome_of_put, reaction_outcome-lifted}
use Rattle.ipdl_laws.proofs.Totals.{total_equal}
use Rattle.ipdl_laws.specs.MeanSame.{MeanSame}
use Rattle.ipdl_norm.specs.Tidied.{grafted, tidied}
use Rattle.ipdl_term.specs.Equality.{Equal}
use Rattle.ipdl_term.specs.Interpretations.{Signature, Interpretation}
use Rattle.ipdl_term.specs.Places.{term_at, term_with}
use Rattle.ipdl_term.specs.Reactions.{Outcome, outcome_value, continued, reaction_outcome}
use Rattle.ipdl_term.specs.Surroundings.{Surroundings, outermost, around}
use Rattle.ipdl_term.specs.Terms.{Value, Channel, variable, Reaction, returning, flipping, reading, branching, binding, Protocol, protocol_term, reaction_term}
use Rattle.ipdl_term.specs.Typing.{Scope, GivesWidth, Typed}
use Rattle.ipdl_term.specs.Valuations.{Valuation}
use Rattle.ipdl_term.specs.Variables.{lifted_reaction}

-- ---- outcomes

-- goes on with the value itself
continued_with_value : (o : Outcome) → continued o (λ v rest. Some (v, rest)) ≡ o
continued_with_value None = refl
continued_with_value (Some o) = refl

-- goes on twice
continued_in_turn : (o : Outcome) (f g : Value → List Bool → Outcome) → continued (continued o f) g ≡ continued o (λ v rest. continued (f v rest) g)
continued_in_turn None f g = refl
continued_in_turn (Some o) f g = refl

module _ (J : Interpretation) where
  -- what one reaction after another does
  grafted_outcome : (w : ℕ) (r t : Reaction) (env : List Value) (inputs : Valuation) (tape : List Bool) → reaction_outcome J (grafted w r t) env inputs tape ≡ reaction_outcome J (binding w r t) env inputs tape
  grafted_outcome w r (returning (variable zero)) env inputs tape = sym (continued_with_value (reaction_outcome J r env inputs tape))
  grafted_outcome w (returning e) t env inputs tape = outcome_of_put J env t e inputs tape
  grafted_outcome w (binding v q s) t env inputs tape =
      continued_equal (reaction_outcome J q env inputs tape) _ _ (λ x rest. grafted_outcome w s (lifted_reaction t 1 1) (x ∷ env) inputs rest ∙
      continued_equal (reaction_outcome J s (x ∷ env) inputs rest) _ _ (λ y rest. reaction_outcome-lifted J (y ∷ []) (x ∷ []) env t inputs rest)) ∙
      sym (continued_in_turn (reaction_outcome J q env inputs tape) _ _)
  grafted_outcome w r t env inputs tape = refl

  pub tidied_does_the_same : (r : Reaction) (env : List Value) (inputs : Valuation) (tape : List Bool) → reaction_outcome J (tidied r) env inputs tape ≡ reaction_outcome J r env inputs tape
  tidied_does_the_same (returning e) env inputs tape = refl
  tidied_does_the_same (flipping w) env inputs tape = refl
  tidied_does_the_same (reading c) env inputs tape = refl
  tidied_does_the_same (branching e r s) env inputs tape = rw (tidied_does_the_same r env inputs tape, tidied_does_the_same s env inputs tape)
  tidied_does_the_same (binding w r s) env inputs tape =
      grafted_outcome w (tidied r) (tidied s) env inputs tape ∙
      ap (λ o. continued o (λ v rest. reaction_outcome J (tidied s) (v ∷ env) inputs rest)) (tidied_does_the_same r env inputs tape) ∙
      continued_equal (reaction_outcome J r env inputs tape) _ _ (λ v rest. tidied_does_the_same s (v ∷ env) inputs rest)

  pub tidied_means_the_same : (s : Surroundings) (r : Reaction) → MeanSame J s (reaction_term r) (reaction_term (tidied r))
  tidied_means_the_same s r = λ env fits meets inputs fitting weight n hr ht.
      total_equal n _ _ (λ tape e. ap (λ o. weight (outcome_value o)) (sym (tidied_does_the_same r env inputs tape)))

-- ---- types

module _ (sig : Signature) (scope : Scope) where
  grafted_is_typed : (widths : List ℕ) (v : ℕ) (r t : Reaction) (w : ℕ) → GivesWidth sig scope widths r v → GivesWidth sig scope (v ∷ widths) t w → GivesWidth sig scope widths (grafted v r t) w
  grafted_is_typed widths v r (returning (variable zero)) w h k =
      let first : Some v ≡ Some w = k in
      let same : v ≡ w = cc in
      subst (GivesWidth sig scope widths r) same h
  grafted_is_typed widths v (returning e) t w h k = GivesWidth-put sig scope widths e v t w h k
  grafted_is_typed widths v (binding u q s) t w h k =
      (h.0, grafted_is_typed (u ∷ widths) v s (lifted_reaction t 1 1) w h.1 (GivesWidth-lifted sig scope (v ∷ []) (u ∷ []) widths t w k))
  grafted_is_typed widths v r t w h k = (h, k)

  pub tidied_is_typed : (widths : List ℕ) (r : Reaction) (w : ℕ) → GivesWidth sig scope widths r w → GivesWidth sig scope widths (tidied r) w
  tidied_is_typed widths (returning e) w h = h
  tidied_is_typed widths (flipping n) w h = h
  tidied_is_typed widths (reading c) w h = h
  tidied_is_typed widths (branching e r s) w h = (h.0, tidied_is_typed widths r w h.1, tidied_is_typed widths s w h.2)
  tidied_is_typed widths (binding v r s) w h = grafted_is_typed widths v (tidied r) (tidied s) w (tidied_is_typed widths r v h.0) (tidied_is_typed (v ∷ widths) s w h.1)

-- ---- at a place

pub tidied_at_place : (sig : Signature) (scope : Scope) (written : List Channel) (p q : Protocol) (place : List ℕ) (r : Reaction) → Typed sig scope p written →
    term_at (protocol_term p) place ≡ Some (reaction_term r) → term_with (protocol_term p) place (reaction_term (tidied r)) ≡ protocol_term q → Equal sig scope written p q
tidied_at_place sig scope written p q place r typed at with =
    let s = around (outermost scope) (protocol_term p) place in
    let typed' = typed_with_reaction sig scope written p q place r (tidied r) typed at with (λ w h. tidied_is_typed sig s.scope s.widths r w h) in
    equal_with_part sig scope written p q place (reaction_term r) (reaction_term (tidied r)) typed typed' at with (λ J interprets. tidied_means_the_same J s r)
