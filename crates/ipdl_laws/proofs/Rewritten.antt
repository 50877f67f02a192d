-- What a reaction with its variables changed does, by the values of the variables that it had before.
use Rattle.std.proofs.Common.{◌≡◌, ℕ, zero, suc, Bool, true, false, List, [], ◌∷◌, ◌++◌, length, Some, None, refl, ap, ◌∙◌, arith}
use Rattle.std.proofs.lemmas.Bool.{or_left, or_right}
use Rattle.std.proofs.lemmas.Bool.Decides.{nat_tests}
use Rattle.std.specs.Prelude.{nat_eq}
use Rattle.ipdl_laws.proofs.Numbers.{nat_eq_self}
use Rattle.ipdl_laws.proofs.Sets.{by_test, not_both}
use Rattle.ipdl_laws.proofs.Substitution.{evaluation_of_put, outcome_of_put, reaction_outcome-lifted}
use Rattle.ipdl_term.specs.Interpretations.{Interpretation, variable_value, cut_value, evaluation}
use Rattle.ipdl_term.specs.Reactions.{Outcome, continued, reaction_outcome}
use Rattle.ipdl_term.specs.Rewriting.{lowered_expression, lowered_reaction, exchanged_reaction, replaced_reaction, joined_reaction}
use Rattle.ipdl_term.specs.Terms.{Value, Expression, literal, variable, outer, application, exclusive, conjunction, negation, concatenation, segment, equality, selection, Reaction, returning, flipping, reading, branching, binding}
use Rattle.ipdl_term.specs.Valuations.{Valuation}
use Rattle.ipdl_term.specs.Variables.{expression_uses, reaction_uses, lifted_reaction, put_reaction}

-- an outcome that goes on in equal ways
pub continued_equal : (o : Outcome) (f g : Value → List Bool → Outcome) → ((v : Value) (rest : List Bool) → f v rest ≡ g v rest) → continued o f ≡ continued o g
continued_equal None f g e = refl
continued_equal (Some o) f g e = e o.0 o.1

-- ---- the variables that occur

module _ (J : Interpretation) where
  -- values that agree at the variables that occur
  pub evaluation_agree : (e : Expression) (env env' : List Value) → ((x : ℕ) → expression_uses e x ≡ true → variable_value env x ≡ variable_value env' x) → evaluation J env e ≡ evaluation J env' e
  evaluation_agree (literal bits) env env' h = refl
  evaluation_agree (variable n) env env' h = h n (nat_eq_self n)
  evaluation_agree (outer n) env env' h = refl
  evaluation_agree (application f e) env env' h = rw (evaluation_agree e env env' h)
  evaluation_agree (exclusive a b) env env' h = rw (evaluation_agree a env env' (λ x k. h x (or_left _ _ k)), evaluation_agree b env env' (λ x k. h x (or_right (expression_uses a x) _ k)))
  evaluation_agree (conjunction a b) env env' h = rw (evaluation_agree a env env' (λ x k. h x (or_left _ _ k)), evaluation_agree b env env' (λ x k. h x (or_right (expression_uses a x) _ k)))
  evaluation_agree (negation a) env env' h = rw (evaluation_agree a env env' h)
  evaluation_agree (concatenation a b) env env' h = rw (evaluation_agree a env env' (λ x k. h x (or_left _ _ k)), evaluation_agree b env env' (λ x k. h x (or_right (expression_uses a x) _ k)))
  evaluation_agree (segment i n a) env env' h = rw (evaluation_agree a env env' h)
  evaluation_agree (equality a b) env env' h = rw (evaluation_agree a env env' (λ x k. h x (or_left _ _ k)), evaluation_agree b env env' (λ x k. h x (or_right (expression_uses a x) _ k)))
  evaluation_agree (selection c a b) env env' h =
      rw (
        evaluation_agree c env env' (λ x k. h x (or_left _ _ k)),
        evaluation_agree a env env' (λ x k. h x (or_right (expression_uses c x) _ (or_left _ _ k))),
        evaluation_agree b env env' (λ x k. h x (or_right (expression_uses c x) _ (or_right (expression_uses a x) _ k))),
      )

  -- the same of a reaction
  pub outcome_agree : (r : Reaction) (env env' : List Value) (inputs : Valuation) (t : List Bool) → ((x : ℕ) → reaction_uses r x ≡ true → variable_value env x ≡ variable_value env' x) → reaction_outcome J r env inputs t ≡ reaction_outcome J r env' inputs t
  outcome_agree (returning e) env env' inputs t h = rw (evaluation_agree e env env' h)
  outcome_agree (flipping w) env env' inputs t h = refl
  outcome_agree (reading c) env env' inputs t h = refl
  outcome_agree (branching e r s) env env' inputs t h =
      rw (
        evaluation_agree e env env' (λ x k. h x (or_left _ _ k)),
        outcome_agree r env env' inputs t (λ x k. h x (or_right (expression_uses e x) _ (or_left _ _ k))),
        outcome_agree s env env' inputs t (λ x k. h x (or_right (expression_uses e x) _ (or_right (reaction_uses r x) _ k))),
      )
  outcome_agree (binding w r s) env env' inputs t h =
      ap (λ o. continued o (λ v rest. reaction_outcome J s (v ∷ env) inputs rest)) (outcome_agree r env env' inputs t (λ x k. h x (or_left _ _ k))) ∙
      continued_equal (reaction_outcome J r env' inputs t) _ _ (λ v rest. outcome_agree s (v ∷ env) (v ∷ env') inputs rest (further v))
    where
      further : (v : Value) (x : ℕ) → reaction_uses s x ≡ true → variable_value (v ∷ env) x ≡ variable_value (v ∷ env') x
      further v zero k = refl
      further v (suc x) k = h x (or_right (reaction_uses r x) (reaction_uses s (suc x)) k)

-- ---- a variable that does not occur

-- each variable but the first one behind the near ones
variable_value_elsewhere : (near env : List Value) (u v : Value) (n : ℕ) → nat_eq n (length near) ≡ false → variable_value (near ++ (u ∷ env)) n ≡ variable_value (near ++ (v ∷ env)) n
variable_value_elsewhere [] env u v zero h = cc
variable_value_elsewhere [] env u v (suc n) h = refl
variable_value_elsewhere (x ∷ near) env u v zero h = refl
variable_value_elsewhere (x ∷ near) env u v (suc n) h = variable_value_elsewhere near env u v n (grind (arith, nat_tests))

module _ (J : Interpretation) (env : List Value) (u v : Value) where
  -- each variable of a term that does not have that one
  elsewhere : (near : List Value) (uses : ℕ → Bool) → uses (length near) ≡ false → (n : ℕ) → uses n ≡ true → variable_value (near ++ (u ∷ env)) n ≡ variable_value (near ++ (v ∷ env)) n
  elsewhere near uses unused n used = variable_value_elsewhere near env u v n (by_test (nat_eq n (length near))
      (λ e. let same : n ≡ length near = grind (arith, nat_tests) in not_both (uses n) used (ap uses same ∙ unused))
      (λ e. e))

  -- in an expression its value makes no difference
  evaluation_without : (near : List Value) (e : Expression) → expression_uses e (length near) ≡ false → evaluation J (near ++ (u ∷ env)) e ≡ evaluation J (near ++ (v ∷ env)) e
  evaluation_without near e h = evaluation_agree J e _ _ (elsewhere near (expression_uses e) h)

  -- nor in a reaction
  pub outcome_without : (near : List Value) (r : Reaction) (inputs : Valuation) (tape : List Bool) → reaction_uses r (length near) ≡ false → reaction_outcome J r (near ++ (u ∷ env)) inputs tape ≡ reaction_outcome J r (near ++ (v ∷ env)) inputs tape
  outcome_without near r inputs tape h = outcome_agree J r _ _ inputs tape (elsewhere near (reaction_uses r) h)

-- ---- changed variables

module _ (J : Interpretation) (env : List Value) where
  -- where variable 0 does not occur, it may have any value
  pub evaluation_of_lowered : (u : Value) (e : Expression) → expression_uses e 0 ≡ false → evaluation J env (lowered_expression e) ≡ evaluation J (u ∷ env) e
  evaluation_of_lowered u e h = evaluation_of_put J env e (literal []) ∙ evaluation_without J env [] u [] e h

  pub outcome_of_lowered : (u : Value) (r : Reaction) (inputs : Valuation) (tape : List Bool) → reaction_uses r 0 ≡ false → reaction_outcome J (lowered_reaction r) env inputs tape ≡ reaction_outcome J r (u ∷ env) inputs tape
  outcome_of_lowered u r inputs tape h = outcome_of_put J env r (literal []) inputs tape ∙ outcome_without J env [] u [] r inputs tape h

  -- variables that are exchanged have their values exchanged
  pub outcome_of_exchanged : (u v : Value) (r : Reaction) (inputs : Valuation) (tape : List Bool) → reaction_outcome J (exchanged_reaction r) (u ∷ v ∷ env) inputs tape ≡ reaction_outcome J r (v ∷ u ∷ env) inputs tape
  outcome_of_exchanged u v r inputs tape =
      outcome_of_put J (u ∷ v ∷ env) (lifted_reaction r 2 1) (variable 1) inputs tape ∙
      reaction_outcome-lifted J (v ∷ u ∷ []) (v ∷ []) env r inputs tape

  -- a variable that is replaced has the value of the expression in its place
  pub outcome_of_replaced : (u : Value) (r : Reaction) (e : Expression) (inputs : Valuation) (tape : List Bool) → reaction_outcome J (replaced_reaction r e) (u ∷ env) inputs tape ≡ reaction_outcome J r (evaluation J (u ∷ env) e ∷ env) inputs tape
  outcome_of_replaced u r e inputs tape =
      outcome_of_put J (u ∷ env) (lifted_reaction r 1 1) e inputs tape ∙
      reaction_outcome-lifted J (evaluation J (u ∷ env) e ∷ []) (u ∷ []) env r inputs tape

  -- two variables that are joined have the two cuts
  pub outcome_of_joined : (u : Value) (v w : ℕ) (r : Reaction) (inputs : Valuation) (tape : List Bool) → reaction_outcome J (joined_reaction v w r) (u ∷ env) inputs tape ≡ reaction_outcome J r (cut_value v w u ∷ cut_value 0 v u ∷ env) inputs tape
  outcome_of_joined u v w r inputs tape =
      outcome_of_put J (u ∷ env) (put_reaction 0 (lifted_reaction r 2 1) (segment v w (variable 1))) (segment 0 v (variable 0)) inputs tape ∙
      outcome_of_put J (cut_value 0 v u ∷ u ∷ env) (lifted_reaction r 2 1) (segment v w (variable 1)) inputs tape ∙
      reaction_outcome-lifted J (cut_value v w u ∷ cut_value 0 v u ∷ []) (u ∷ []) env r inputs tape
