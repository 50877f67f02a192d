-- Reactions that have no variable of a binder outside, and reactions without `flip`.
use Rattle.std.proofs.Common.{◌≡◌, ℕ, zero, suc, ◌<◌, ◌≤◌, Bool, true, false, List, [], ◌∷◌, length, Option, Some, None, refl, sym, ap, ◌∙◌, arith}
use Rattle.std.proofs.lemmas.Bool.{or_parts, or_from}
use Rattle.std.proofs.lemmas.Bool.Decides.{nat_tests}
use Rattle.std.specs.Prelude.{nat_eq, slice_get}
use Rattle.ipdl_laws.proofs.Rewritten.{outcome_agree}
use Rattle.ipdl_laws.proofs.Sets.{not_both}
use Rattle.ipdl_laws.specs.Assignments.{given_value}
use Rattle.ipdl_laws.specs.ReactionContexts.{IsClosed}
use Rattle.ipdl_term.specs.Interpretations.{Interpretation, Signature, chosen, evaluation}
use Rattle.ipdl_term.specs.Reactions.{Outcome, outcome_value, with_tape, continued, reaction_outcome}
use Rattle.ipdl_term.specs.Terms.{Value, Expression, literal, variable, outer, application, exclusive, conjunction, negation, concatenation, segment, equality, selection, Reaction, returning, flipping, reading, branching, binding}
use Rattle.ipdl_term.specs.Typing.{Scope, HasWidth, GivesWidth}
use Rattle.ipdl_term.specs.Valuations.{Valuation}
use Rattle.ipdl_term.specs.Variables.{expression_uses, reaction_uses, has_flip}

module _ (J : Interpretation) where
  -- a closed reaction does the same whatever the values of variables
  pub outcome_closed : (r : Reaction) (env env' : List Value) (inputs : Valuation) (t : List Bool) → IsClosed r → reaction_outcome J r env inputs t ≡ reaction_outcome J r env' inputs t
  outcome_closed r env env' inputs t closed = outcome_agree J r env env' inputs t (λ x k. not_both (reaction_uses r x) k (closed x))

  -- ---- without `flip`

  -- a value, or none, with the tape
  with_tape_again : (o : Option Value) (t t' : List Bool) → with_tape o t ≡ with_tape (outcome_value (with_tape o t')) t
  with_tape_again None t t' = refl
  with_tape_again (Some v) t t' = refl

  -- one of outcomes that take no bits
  chosen_again : (v : Value) (t : List Bool) (a b a' b' : Outcome) → a ≡ with_tape (outcome_value a') t → b ≡ with_tape (outcome_value b') t → chosen v a b b ≡ with_tape (outcome_value (chosen v a' b' b')) t
  chosen_again [] t a b a' b' h k = k
  chosen_again (true ∷ []) t a b a' b' h k = h
  chosen_again (false ∷ []) t a b a' b' h k = k
  chosen_again (c ∷ d ∷ bits) t a b a' b' h k = k

  -- outcomes that take no bits and go on with ones that take none
  continued_again : (o : Option Value) (t t' : List Bool) (next : Value → List Bool → Outcome) → ((v : Value) → next v t ≡ with_tape (outcome_value (next v t')) t) → continued (with_tape o t) next ≡ with_tape (outcome_value (continued (with_tape o t') next)) t
  continued_again None t t' next h = refl
  continued_again (Some v) t t' next h = h v

  -- a reaction without `flip` gives the value that it gives on any tape, and takes no bits
  outcome_without_flip : (r : Reaction) (env : List Value) (inputs : Valuation) (t t' : List Bool) → has_flip r ≡ false → reaction_outcome J r env inputs t ≡ with_tape (outcome_value (reaction_outcome J r env inputs t')) t
  outcome_without_flip (returning e) env inputs t t' h = refl
  outcome_without_flip (flipping w) env inputs t t' h = cc
  outcome_without_flip (reading c) env inputs t t' h = with_tape_again (inputs c) t t'
  outcome_without_flip (branching e r s) env inputs t t' h =
      let both = or_parts (has_flip r) (has_flip s) h in
      chosen_again (evaluation J env e) t _ _ _ _ (outcome_without_flip r env inputs t t' both.0) (outcome_without_flip s env inputs t t' both.1)
  outcome_without_flip (binding w r s) env inputs t t' h =
      let both = or_parts (has_flip r) (has_flip s) h in
      let next : Value → List Bool → Outcome = λ v rest. reaction_outcome J s (v ∷ env) inputs rest in
      ap (λ o. continued o next) (outcome_without_flip r env inputs t t' both.0) ∙
      continued_again (outcome_value (reaction_outcome J r env inputs t')) t t' next (λ v. outcome_without_flip s (v ∷ env) inputs t t' both.1) ∙
      sym (ap (λ o. with_tape (outcome_value (continued o next)) t) (outcome_without_flip r env inputs t' t' both.0))

  -- and closed, it does so wherever it stands
  pub reaction_outcome-closed : (r : Reaction) (env : List Value) (inputs : Valuation) (t t' : List Bool) → has_flip r ≡ false → IsClosed r → reaction_outcome J r env inputs t ≡ with_tape (given_value J r t' inputs) t
  reaction_outcome-closed r env inputs t t' no_flip closed = outcome_closed r env [] inputs t closed ∙ outcome_without_flip r [] inputs t t' no_flip

-- ---- typed

-- a binder that is there has a smaller number
slice_get_within : (widths : List ℕ) (n w : ℕ) → slice_get widths n ≡ Some w → n < length widths
slice_get_within [] n w h = cc
slice_get_within (v ∷ widths) zero w h = omega arith
slice_get_within (v ∷ widths) (suc n) w h = let k = slice_get_within widths n w h in omega arith

-- two numbers of which one is smaller
nat_eq_below : (m k : ℕ) → m < k → nat_eq m k ≡ false
nat_eq_below m k h = grind (arith, nat_tests)

module _ (sig : Signature) where
  -- a typed expression has the variables of the binders alone
  expression_closed : (e : Expression) (widths : List ℕ) (w x : ℕ) → HasWidth sig widths e w → length widths ≤ x → expression_uses e x ≡ false
  expression_closed (literal bits) widths w x h l = refl
  expression_closed (variable n) widths w x h l = nat_eq_below n x (let k = slice_get_within widths n w h in omega arith)
  expression_closed (outer n) widths w x h l = refl
  expression_closed (application f e) widths w x h l = expression_closed e widths h.0.from x h.2 l
  expression_closed (exclusive a b) widths w x h l = or_from _ _ (expression_closed a widths w x h.0 l) (expression_closed b widths w x h.1 l)
  expression_closed (conjunction a b) widths w x h l = or_from _ _ (expression_closed a widths w x h.0 l) (expression_closed b widths w x h.1 l)
  expression_closed (negation a) widths w x h l = expression_closed a widths w x h l
  expression_closed (concatenation a b) widths w x h l = or_from _ _ (expression_closed a widths h.0 x h.2 l) (expression_closed b widths h.1 x h.3 l)
  expression_closed (segment i n a) widths w x h l = expression_closed a widths h.0 x h.1 l
  expression_closed (equality a b) widths w x h l = or_from _ _ (expression_closed a widths h.0 x h.1 l) (expression_closed b widths h.0 x h.2 l)
  expression_closed (selection c a b) widths w x h l = or_from _ _ (expression_closed c widths 1 x h.0 l) (or_from _ _ (expression_closed a widths w x h.1 l) (expression_closed b widths w x h.2 l))

  -- a typed reaction has the variables of the binders around it alone
  reaction_closed : (scope : Scope) (r : Reaction) (widths : List ℕ) (w x : ℕ) → GivesWidth sig scope widths r w → length widths ≤ x → reaction_uses r x ≡ false
  reaction_closed scope (returning e) widths w x h l = expression_closed e widths w x h l
  reaction_closed scope (flipping n) widths w x h l = refl
  reaction_closed scope (reading c) widths w x h l = refl
  reaction_closed scope (branching e r s) widths w x h l = or_from _ _ (expression_closed e widths 1 x h.0 l) (or_from _ _ (reaction_closed scope r widths w x h.1 l) (reaction_closed scope s widths w x h.2 l))
  reaction_closed scope (binding v r s) widths w x h l = or_from _ _ (reaction_closed scope r widths v x h.0 l) (reaction_closed scope s (v ∷ widths) w (suc x) h.1 (omega arith))

  -- a reaction that is typed under no binders is closed
  pub typed_is_closed : (scope : Scope) (r : Reaction) (w : ℕ) → GivesWidth sig scope [] r w → IsClosed r
  typed_is_closed scope r w h x = reaction_closed scope r [] w x h (omega arith)
