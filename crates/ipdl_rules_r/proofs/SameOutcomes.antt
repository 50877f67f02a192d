-- The rules whose two sides do the same on every tape.
use Rattle.std.proofs.Common.{◌≡◌, ℕ, Bool, true, false, List, [], ◌∷◌, Option, Some, None, refl, sym, ap, ◌∙◌}
use Rattle.std.proofs.lemmas.Bool.{or_parts}
use Rattle.ipdl_laws.proofs.Substitution.{outcome_of_put, reaction_outcome-lifted}
use Rattle.ipdl_laws.proofs.Totals.{total_equal}
use Rattle.ipdl_laws.specs.ReactionTotals.{Weight, reaction_total}
use Rattle.ipdl_laws.proofs.Rewritten.{continued_equal, outcome_of_lowered}
use Rattle.ipdl_rules_r.specs.SameTotals.{DoTheSame, HaveSameTotals}
use Rattle.ipdl_term.specs.Interpretations.{Interpretation, chosen, evaluation}
use Rattle.ipdl_term.specs.Reactions.{outcome_value, Outcome, with_tape, continued, reaction_outcome}
use Rattle.ipdl_term.specs.Rewriting.{lowered_reaction}
use Rattle.ipdl_term.specs.Terms.{Value, Expression, literal, variable, Reaction, returning, flipping, reading, branching, binding}
use Rattle.ipdl_term.specs.Valuations.{Valuation}
use Rattle.ipdl_term.specs.Variables.{reaction_uses, has_flip, lifted_reaction, put_reaction}

-- ---- outcomes

-- goes on twice
continued_twice : (o : Outcome) (f g : Value → List Bool → Outcome) → continued (continued o f) g ≡ continued o (λ v rest. continued (f v rest) g)
continued_twice None f g = refl
continued_twice (Some o) f g = refl

-- goes on with nothing
continued_as_is : (o : Outcome) → continued o (λ v rest. Some (v, rest)) ≡ o
continued_as_is None = refl
continued_as_is (Some o) = refl

-- whichever is chosen
chosen_alike : (v : Value) (o : Outcome) → chosen v o o o ≡ o
chosen_alike [] o = refl
chosen_alike (true ∷ []) o = refl
chosen_alike (false ∷ []) o = refl
chosen_alike (a ∷ b ∷ v) o = refl

-- goes on from what is chosen
continued-chosen : (v : Value) (o p : Outcome) (f : Value → List Bool → Outcome) → continued (chosen v o p p) f ≡ chosen v (continued o f) (continued p f) (continued p f)
continued-chosen [] o p f = refl
continued-chosen (true ∷ []) o p f = refl
continued-chosen (false ∷ []) o p f = refl
continued-chosen (a ∷ b ∷ v) o p f = refl

-- ---- without a `flip` the whole tape is left

abbrev LeavesTape : List Bool → Outcome → Type 0
LeavesTape t None = Unit {0}
LeavesTape t (Some o) = o.1 ≡ t

LeavesTape-with_tape : (o : Option Value) (t : List Bool) → LeavesTape t (with_tape o t)
LeavesTape-with_tape None t = tt
LeavesTape-with_tape (Some v) t = refl

LeavesTape-chosen : (v : Value) (t : List Bool) (o p : Outcome) → LeavesTape t o → LeavesTape t p → LeavesTape t (chosen v o p p)
LeavesTape-chosen [] t o p h k = k
LeavesTape-chosen (true ∷ []) t o p h k = h
LeavesTape-chosen (false ∷ []) t o p h k = k
LeavesTape-chosen (a ∷ b ∷ v) t o p h k = k

-- what goes on from a whole tape and leaves what it finds
LeavesTape-continued : (t : List Bool) (o : Outcome) (next : Value → List Bool → Outcome) → LeavesTape t o → ((v : Value) (rest : List Bool) → LeavesTape rest (next v rest)) → LeavesTape t (continued o next)
LeavesTape-continued t None next h k = tt
LeavesTape-continued t (Some o) next h k = go (next o.0 o.1) (k o.0 o.1)
  where
    go : (p : Outcome) → LeavesTape o.1 p → LeavesTape t p
    go None l = tt
    go (Some p) l = l ∙ h

module _ (J : Interpretation) where
  LeavesTape-reaction_outcome : (r : Reaction) (env : List Value) (inputs : Valuation) (t : List Bool) → has_flip r ≡ false → LeavesTape t (reaction_outcome J r env inputs t)
  LeavesTape-reaction_outcome (returning e) env inputs t h = refl
  LeavesTape-reaction_outcome (flipping w) env inputs t h = cc
  LeavesTape-reaction_outcome (reading c) env inputs t h = LeavesTape-with_tape (inputs c) t
  LeavesTape-reaction_outcome (branching e r s) env inputs t h =
      let p = or_parts (has_flip r) _ h in
      LeavesTape-chosen (evaluation J env e) t _ _ (LeavesTape-reaction_outcome r env inputs t p.0) (LeavesTape-reaction_outcome s env inputs t p.1)
  LeavesTape-reaction_outcome (binding w r s) env inputs t h =
      let p = or_parts (has_flip r) _ h in
      LeavesTape-continued t _ _ (LeavesTape-reaction_outcome r env inputs t p.0) (λ v rest. LeavesTape-reaction_outcome s (v ∷ env) inputs rest p.1)

-- ---- the rules

module _ (J : Interpretation) (env : List Value) (inputs : Valuation) where
  pub beta_is_the_same : (w : ℕ) (e : Expression) (s : Reaction) → DoTheSame J env inputs (binding w (returning e) s) (put_reaction 0 s e)
  beta_is_the_same w e s tape = sym (outcome_of_put J env s e inputs tape)

  pub eta_is_the_same : (w : ℕ) (r : Reaction) → DoTheSame J env inputs (binding w r (returning (variable 0))) r
  eta_is_the_same w r tape = continued_as_is (reaction_outcome J r env inputs tape)

  pub assoc_is_the_same : (v w : ℕ) (r s t : Reaction) → DoTheSame J env inputs (binding w (binding v r s) t) (binding v r (binding w s (lifted_reaction t 1 1)))
  assoc_is_the_same v w r s t tape =
      continued_twice (reaction_outcome J r env inputs tape) _ _ ∙
      continued_equal (reaction_outcome J r env inputs tape) _ _ (λ x rest. continued_equal (reaction_outcome J s (x ∷ env) inputs rest) _ _ (λ y rest. sym (reaction_outcome-lifted J (y ∷ []) (x ∷ []) env t inputs rest)))

  pub iftrue_is_the_same : (r s : Reaction) → DoTheSame J env inputs (branching (literal (true ∷ [])) r s) r
  iftrue_is_the_same r s tape = refl

  pub iffalse_is_the_same : (r s : Reaction) → DoTheSame J env inputs (branching (literal (false ∷ [])) r s) s
  iffalse_is_the_same r s tape = refl

  pub ifsame_is_the_same : (e : Expression) (r : Reaction) → DoTheSame J env inputs (branching e r r) r
  ifsame_is_the_same e r tape = chosen_alike (evaluation J env e) (reaction_outcome J r env inputs tape)

  pub ifbind_is_the_same : (w : ℕ) (e : Expression) (r s t : Reaction) → DoTheSame J env inputs (binding w (branching e r s) t) (branching e (binding w r t) (binding w s t))
  ifbind_is_the_same w e r s t tape =
      continued-chosen (evaluation J env e) (reaction_outcome J r env inputs tape) (reaction_outcome J s env inputs tape) _

  pub flip0_is_the_same : DoTheSame J env inputs (flipping 0) (returning (literal []))
  flip0_is_the_same tape = refl

  pub again_is_the_same : (v w : ℕ) (r q t : Reaction) → reaction_uses q 0 ≡ false → lowered_reaction q ≡ r → has_flip r ≡ false → DoTheSame J env inputs (binding v r (binding w q t)) (binding v r (put_reaction 0 t (variable 0)))
  again_is_the_same v w r q t unused same no_flip tape = go (reaction_outcome J r env inputs tape) refl (LeavesTape-reaction_outcome J r env inputs tape no_flip)
    where
      twice : Value → List Bool → Outcome
      twice = λ u rest. continued (reaction_outcome J q (u ∷ env) inputs rest) (λ x rest. reaction_outcome J t (x ∷ u ∷ env) inputs rest)

      go : (o : Outcome) → reaction_outcome J r env inputs tape ≡ o → LeavesTape tape o → continued o twice ≡ continued o (λ u rest. reaction_outcome J (put_reaction 0 t (variable 0)) (u ∷ env) inputs rest)
      go None e h = refl
      go (Some o) e h =
          let second : reaction_outcome J q (o.0 ∷ env) inputs o.1 ≡ Some o =
          sym (outcome_of_lowered J env o.0 q inputs o.1 unused) ∙ ap (λ x. reaction_outcome J x env inputs o.1) same ∙ ap (reaction_outcome J r env inputs) h ∙ e in
          ap (λ p. continued p (λ x rest. reaction_outcome J t (x ∷ o.0 ∷ env) inputs rest)) second ∙
          sym (outcome_of_put J (o.0 ∷ env) t (variable 0) inputs o.1)

-- ---- totals

module _ (J : Interpretation) where
  -- reactions, each with its own values of the variables, that do the same on each tape
  pub totals_of_same_outcomes : (r s : Reaction) (env env' : List Value) (inputs : Valuation) (n : ℕ) (weight : Weight) → ((tape : List Bool) → reaction_outcome J r env inputs tape ≡ reaction_outcome J s env' inputs tape) → reaction_total J r env inputs n weight ≡ reaction_total J s env' inputs n weight
  totals_of_same_outcomes r s env env' inputs n weight h = total_equal n _ _ (λ tape e. ap (λ o. weight (outcome_value o)) (h tape))

  pub same_is_as_likely : (env : List Value) (inputs : Valuation) (r s : Reaction) → DoTheSame J env inputs r s → HaveSameTotals J env inputs r s
  same_is_as_likely env inputs r s h weight n hr hs = totals_of_same_outcomes r s env env inputs n weight h
