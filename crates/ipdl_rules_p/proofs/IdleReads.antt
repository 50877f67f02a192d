-- The rules on a first read whose value is not used.
use Rattle.std.proofs.Common.{◌≡◌, ◌≢◌, ℕ, ◌≤◌, Bool, true, false, List, [], ◌∷◌, length, Option, Some, None, is_some, refl, sym, ap, ◌∙◌}
use Rattle.ipdl_laws.proofs.ReadingLaws.{must_be_written, not_stuck}
use Rattle.ipdl_laws.proofs.Rewritten.{outcome_of_lowered}
use Rattle.ipdl_laws.proofs.Sets.{by_test, if-true, if-false}
use Rattle.ipdl_laws.proofs.Substitution.{reaction_outcome-lifted}
use Rattle.ipdl_laws.proofs.TwoAssignments.{with_value-at, with_value-none, alike_beside_assignment}
use Rattle.ipdl_laws.specs.Alike.{Alike}
use Rattle.ipdl_laws.specs.Assignments.{with_value, given_value}
use Rattle.ipdl_term.specs.Channels.{same_channel, has, IsWithin, reads, must_reads}
use Rattle.ipdl_term.specs.Interpretations.{Interpretation}
use Rattle.ipdl_term.specs.Reactions.{Outcome, outcome_value, with_tape, continued, reaction_outcome, reaction_coins}
use Rattle.ipdl_term.specs.Rewriting.{lowered_reaction}
use Rattle.ipdl_term.specs.Terms.{Value, Channel, Reaction, reading, binding, assignment, parallel}
use Rattle.ipdl_term.specs.Typing.{Scope}
use Rattle.ipdl_term.specs.Valuations.{Valuation}
use Rattle.ipdl_term.specs.Variables.{reaction_uses, lifted_reaction}
use Rattle.ipdl_rules_p.proofs.SilentParts.{reaction_outcome-stuck}

module _ (J : Interpretation) where
  -- what follows a value, and nothing where there is none
  abbrev after : Option Value → Option Value → Option Value
  after None x = None
  after (Some v) x = x

  -- a read before a reaction that does the same whatever is read
  given_value-read_first : (c : Channel) (w : ℕ) (s s' : Reaction) (t : List Bool) (inputs : Valuation) → ((v : Value) → reaction_outcome J s (v ∷ []) inputs t ≡ reaction_outcome J s' [] inputs t) →
      given_value J (binding w (reading c) s) t inputs ≡ after (inputs c) (given_value J s' t inputs)
  given_value-read_first c w s s' t inputs same = go (inputs c)
    where
      go : (o : Option Value) → outcome_value (continued (with_tape o t) (λ v rest. reaction_outcome J s (v ∷ []) inputs rest)) ≡ after o (given_value J s' t inputs)
      go None = refl
      go (Some v) = ap outcome_value (same v)

  -- a reaction that gives a value has all that it must read
  must_be_given : (r : Reaction) (t : List Bool) (inputs : Valuation) → is_some (given_value J r t inputs) ≡ true → (c : Channel) → has (must_reads r) c ≡ true → is_some (inputs c) ≡ true
  must_be_given r t inputs h c must = go (reaction_outcome J r [] inputs t) refl h
    where
      go : (o : Outcome) → reaction_outcome J r [] inputs t ≡ o → is_some (outcome_value o) ≡ true → is_some (inputs c) ≡ true
      go None e k = cc
      go (Some x) e k = must_be_written J r [] inputs t x e c must

  -- ---- drop

  module _ (r s : Reaction) (unused : reaction_uses s 0 ≡ false) (within : IsWithin (reads r) (must_reads s)) where
    -- where the first assignment gives nothing, neither does what must read all that it reads
    drop_given : (a : Channel) (ta tb : List Bool) (inputs : Valuation) → reaction_coins r ≤ length ta → inputs a ≡ None →
        (o : Option Value) → given_value J r ta inputs ≡ o → after o (given_value J (lowered_reaction s) tb (with_value a o inputs)) ≡ given_value J (lowered_reaction s) tb (with_value a o inputs)
    drop_given a ta tb inputs enough none (Some v) e = refl
    drop_given a ta tb inputs enough none None e =
        sym (ap (given_value J (lowered_reaction s) tb) (with_value-none a inputs none) ∙ ap outcome_value (reaction_outcome-stuck J (lowered_reaction s) tb inputs (λ x k.
        let runs : reaction_outcome J s ([] ∷ []) inputs tb ≡ Some x = sym (outcome_of_lowered J [] [] s inputs tb unused) ∙ k in
        let gives = not_stuck J r [] inputs ta (λ c h. must_be_written J s ([] ∷ []) inputs tb x runs c (within c h)) enough in
        let l : None ≡ Some (gives.0.0) = sym e ∙ ap outcome_value gives.2 in
        cc)))

    -- a first read of which the value is not used, left out
    pub alike_drop : (scope : Scope) (a b : Channel) (w : ℕ) → a ≢ b → Alike J scope (parallel (assignment a r) (assignment b (binding w (reading a) s))) (parallel (assignment a r) (assignment b (lowered_reaction s)))
    alike_drop scope a b w differ =
        alike_beside_assignment J scope a b r (binding w (reading a) s) (lowered_reaction s) differ
        (λ ta tb enough enough_k enough_s inputs none_a none_b.
        let o = given_value J r ta inputs in
        let around : Valuation = with_value a o inputs in
        given_value-read_first a w s (lowered_reaction s) tb around (λ v. sym (outcome_of_lowered J [] v s around tb unused)) ∙
        ap (λ x. after x (given_value J (lowered_reaction s) tb around)) (with_value-at a o inputs) ∙
        drop_given a ta tb inputs enough none_a o refl)

  -- ---- subsume

  -- what is there only after a value
  after_value : (o x : Option Value) → (is_some x ≡ true → is_some o ≡ true) → x ≡ after o x
  after_value None None h = refl
  after_value None (Some v) h = let k : false ≡ true = h refl in cc
  after_value (Some u) x h = refl

  -- a read of what the first assignment must read, before a reaction that must read the first one's channel
  pub alike_subsume : (scope : Scope) (a b c : Channel) (w : ℕ) (r s : Reaction) → a ≢ b → has (must_reads s) a ≡ true → has (must_reads r) c ≡ true →
      Alike J scope (parallel (assignment a r) (assignment b s)) (parallel (assignment a r) (assignment b (binding w (reading c) (lifted_reaction s 0 1))))
  alike_subsume scope a b c w r s differ must_s must_r =
      alike_beside_assignment J scope a b r s (binding w (reading c) (lifted_reaction s 0 1)) differ
      (λ ta tb enough enough_s enough_k inputs none_a none_b.
      let o = given_value J r ta inputs in
      let around : Valuation = with_value a o inputs in
      after_value (around c) (given_value J s tb around) (λ h.
      let first_given : is_some o ≡ true = ap is_some (sym (with_value-at a o inputs)) ∙ must_be_given s tb around h a must_s in
      by_test (same_channel a c)
      (λ e. ap is_some (if-true (same_channel a c) _ _ e) ∙ first_given)
      (λ e. ap is_some (if-false (same_channel a c) _ _ e) ∙ must_be_given r ta inputs first_given c must_r)) ∙
      sym (given_value-read_first c w (lifted_reaction s 0 1) s tb around (λ v. reaction_outcome-lifted J [] (v ∷ []) [] s around tb)))
