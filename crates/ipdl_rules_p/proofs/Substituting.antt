-- The reaction of an assignment in the place of a read of its channel.
use Rattle.std.proofs.Common.{◌≡◌, ◌≢◌, ℕ, Bool, false, List, [], Option, Some, None, refl, sym, ap, ◌∙◌, subst}
use Rattle.ipdl_laws.proofs.ClosedReactions.{reaction_outcome-closed}
use Rattle.ipdl_laws.proofs.FilledReactions.{reaction_context_at_place, reaction_outcome-filled}
use Rattle.ipdl_laws.proofs.TwoAssignments.{with_value-at, with_value-none, LiesWithin-with_value, given_value_grows, alike_beside_assignment}
use Rattle.ipdl_laws.specs.Alike.{Alike}
use Rattle.ipdl_laws.specs.Assignments.{with_value, given_value}
use Rattle.ipdl_laws.specs.ReactionContexts.{ReactionContext, filled, outcome_with, IsClosed}
use Rattle.ipdl_term.specs.Interpretations.{Interpretation}
use Rattle.ipdl_term.specs.Places.{reaction_or, term_at, term_with}
use Rattle.ipdl_term.specs.Reactions.{outcome_value}
use Rattle.ipdl_term.specs.Terms.{Channel, Value, Reaction, reading, assignment, parallel, reaction_term}
use Rattle.ipdl_term.specs.Typing.{Scope}
use Rattle.ipdl_term.specs.Valuations.{Valuation}
use Rattle.ipdl_term.specs.Variables.{has_flip}

module _ (J : Interpretation) where
  -- where a has what its reaction gives, the reaction gives it again
  given_again : (a : Channel) (r : Reaction) (t : List Bool) (inputs : Valuation) → inputs a ≡ None → (o : Option Value) → given_value J r t inputs ≡ o → given_value J r t (with_value a o inputs) ≡ o
  given_again a r t inputs none None e = ap (given_value J r t) (with_value-none a inputs none) ∙ e
  given_again a r t inputs none (Some v) e = given_value_grows J r t inputs _ (LiesWithin-with_value a inputs none (Some v)) v e

  module _ (scope : Scope) (a b : Channel) (r : Reaction) (differ : a ≢ b) (no_flip : has_flip r ≡ false) (closed : IsClosed r) where
    -- in the hole of a context
    alike_filled : (C : ReactionContext) → Alike J scope (parallel (assignment a r) (assignment b (filled C (reading a)))) (parallel (assignment a r) (assignment b (filled C r)))
    alike_filled C =
        alike_beside_assignment J scope a b r (filled C (reading a)) (filled C r) differ
        (λ ta tb enough enough_a enough_r inputs none_a none_b.
        let o = given_value J r ta inputs in
        let around : Valuation = with_value a o inputs in
        ap outcome_value (
        reaction_outcome-filled J C (reading a) (around a) around (λ env t. refl) [] tb ∙
        ap (λ x. outcome_with J C x [] around tb) (with_value-at a o inputs ∙ sym (given_again a r ta inputs none_a o refl)) ∙
        sym (reaction_outcome-filled J C r (given_value J r ta around) around (λ env t. reaction_outcome-closed J r env around t ta no_flip closed) [] tb)))

    -- at a place
    pub alike_subst : (k : Reaction) (place : List ℕ) → term_at (reaction_term k) place ≡ Some (reaction_term (reading a)) →
        Alike J scope (parallel (assignment a r) (assignment b k)) (parallel (assignment a r) (assignment b (reaction_or k (term_with (reaction_term k) place (reaction_term r)))))
    alike_subst k place at =
        let C = reaction_context_at_place k place (reading a) at in
        subst (λ x. Alike J scope (parallel (assignment a r) (assignment b k)) (parallel (assignment a r) (assignment b x))) (sym (C.2 r))
        (subst (λ x. Alike J scope (parallel (assignment a r) (assignment b x)) (parallel (assignment a r) (assignment b (filled C.0 r)))) (sym C.1) (alike_filled C.0))
