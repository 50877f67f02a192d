-- A part replaced by one that means the same leaves the whole meaning the same.
use Rattle.std.proofs.Common.{◌≡◌, ℕ, zero, suc, ◌^◌, true, false, List, [], ◌∷◌, length, Some, None, refl, sym, ap, ◌∙◌, subst, arith, pow_pos}
use Rattle.ipdl_laws.specs.Alike.{Alike}
use Rattle.ipdl_laws.specs.ReactionTotals.{Weight, reaction_total, weight_then, OutcomeFits}
use Rattle.ipdl_term.specs.Counts.{total}
use Rattle.ipdl_term.specs.Equality.{Equal}
use Rattle.ipdl_term.specs.Interpretations.{Signature, Interpretation, Interprets, chosen, evaluation}
use Rattle.ipdl_term.specs.Reactions.{outcome_value, Outcome, reaction_outcome}
use Rattle.std.specs.Prelude.{map}
use Rattle.ipdl_term.specs.Terms.{Value, Channel, Expression, application, exclusive, conjunction, negation, concatenation, segment, equality, selection, Reaction, returning, branching, binding, Protocol, assignment, parallel, hiding, Term, protocol_term, reaction_term, expression_term}
use Rattle.ipdl_term.specs.Typing.{Scope, scope_with, HasWidth, GivesWidth, IsTyped, Typed}
use Rattle.ipdl_term.specs.Valuations.{Valuation}
use Rattle.ipdl_laws.proofs.Congruence.{alike_beside_left, alike_beside_right, alike_under_hiding}
use Rattle.ipdl_laws.proofs.Products.{reaction_total-binding, alike_assignments}
use Rattle.ipdl_laws.proofs.Soundness.{alike_is_equal}
use Rattle.ipdl_laws.proofs.Substitution.{evaluation-lifted}
use Rattle.ipdl_laws.proofs.Totals.{total_equal, cancelled}
use Rattle.ipdl_laws.proofs.Widths.{length-evaluation, OutcomeFits-reaction_outcome, KeepsScope-protocol_valuation}
use Rattle.ipdl_term.specs.Places.{expression_or, reaction_or, protocol_or, term_at, term_with}
use Rattle.ipdl_term.specs.Surroundings.{Condition, lifted_condition, Surroundings, outermost, in_arm, under_binder, around, Meets}
use Rattle.ipdl_laws.specs.MeanSame.{MeanSame}

module _ (J : Interpretation) where
  -- the whole itself
  same_whole : (s : Surroundings) (t old new : Term) → Some t ≡ Some old → MeanSame J s old new → MeanSame J s t new
  same_whole s t old new at same = let e : old ≡ t = cc in subst (λ x. MeanSame J s x new) e same

  -- an operand of an expression
  same_operand : (s : Surroundings) (a : Expression) (x : Term) (f : Expression → Expression) →
      ((env : List Value) (b : Expression) → evaluation J env a ≡ evaluation J env b → evaluation J env (f a) ≡ evaluation J env (f b)) →
      MeanSame J s (expression_term a) x → MeanSame J s (expression_term (f a)) (expression_term (f (expression_or a x)))
  same_operand s a (expression_term b) f h same = λ env fits meets. h env b (same env fits meets)
  same_operand s a _ f h same = absurd same

  -- at a place in an expression
  pub same_in_expression : (s : Surroundings) (e : Expression) (place : List ℕ) (old new : Term) → term_at (expression_term e) place ≡ Some old → MeanSame J (around s (expression_term e) place) old new →
      MeanSame J s (expression_term e) (term_with (expression_term e) place new)
  same_in_expression s e [] old new at same = same_whole s (expression_term e) old new at same
  same_in_expression s (application f a) (zero ∷ place) old new at same = same_operand s a _ (λ x. application f x) (λ env b k. rw k) (same_in_expression s a place old new at same)
  same_in_expression s (exclusive a b) (zero ∷ place) old new at same = same_operand s a _ (λ x. exclusive x b) (λ env c k. rw k) (same_in_expression s a place old new at same)
  same_in_expression s (exclusive a b) (suc zero ∷ place) old new at same = same_operand s b _ (λ x. exclusive a x) (λ env c k. rw k) (same_in_expression s b place old new at same)
  same_in_expression s (conjunction a b) (zero ∷ place) old new at same = same_operand s a _ (λ x. conjunction x b) (λ env c k. rw k) (same_in_expression s a place old new at same)
  same_in_expression s (conjunction a b) (suc zero ∷ place) old new at same = same_operand s b _ (λ x. conjunction a x) (λ env c k. rw k) (same_in_expression s b place old new at same)
  same_in_expression s (negation a) (zero ∷ place) old new at same = same_operand s a _ (λ x. negation x) (λ env c k. rw k) (same_in_expression s a place old new at same)
  same_in_expression s (concatenation a b) (zero ∷ place) old new at same = same_operand s a _ (λ x. concatenation x b) (λ env c k. rw k) (same_in_expression s a place old new at same)
  same_in_expression s (concatenation a b) (suc zero ∷ place) old new at same = same_operand s b _ (λ x. concatenation a x) (λ env c k. rw k) (same_in_expression s b place old new at same)
  same_in_expression s (segment i n a) (zero ∷ place) old new at same = same_operand s a _ (λ x. segment i n x) (λ env c k. rw k) (same_in_expression s a place old new at same)
  same_in_expression s (equality a b) (zero ∷ place) old new at same = same_operand s a _ (λ x. equality x b) (λ env c k. rw k) (same_in_expression s a place old new at same)
  same_in_expression s (equality a b) (suc zero ∷ place) old new at same = same_operand s b _ (λ x. equality a x) (λ env c k. rw k) (same_in_expression s b place old new at same)
  same_in_expression s (selection c a b) (zero ∷ place) old new at same = same_operand s c _ (λ x. selection x a b) (λ env d k. rw k) (same_in_expression s c place old new at same)
  same_in_expression s (selection c a b) (suc zero ∷ place) old new at same = same_operand s a _ (λ x. selection c x b) (λ env d k. rw k) (same_in_expression s a place old new at same)
  same_in_expression s (selection c a b) (suc (suc zero) ∷ place) old new at same = same_operand s b _ (λ x. selection c a x) (λ env d k. rw k) (same_in_expression s b place old new at same)
  same_in_expression s _ _ old new at same = cc

-- the two values of one bit
by_bit : {P : Type 0} (v : Value) → length v ≡ 1 → (v ≡ true ∷ [] → P) → (v ≡ false ∷ [] → P) → P
by_bit [] h f g = absurd (omega arith)
by_bit (true ∷ []) h f g = f refl
by_bit (false ∷ []) h f g = g refl
by_bit (a ∷ b ∷ v) h f g = absurd (omega arith)

module _ (J : Interpretation) where
  -- the conditions are met under one binder more
  meets_lifted : (v : Value) (env : List Value) (conditions : List Condition) → Meets J env conditions → Meets J (v ∷ env) (map lifted_condition conditions)
  meets_lifted v env [] h = tt
  meets_lifted v env (c ∷ conditions) h = (evaluation-lifted J [] (v ∷ []) env c.test ∙ h.0, meets_lifted v env conditions h.1)

  -- the expression of a `ret`
  same_returning : (s : Surroundings) (e : Expression) (x : Term) → MeanSame J s (expression_term e) x →
      MeanSame J s (reaction_term (returning e)) (reaction_term (returning (expression_or e x)))
  same_returning s e (expression_term f) same = λ env fits meets inputs fitting weight n hr hq. ap (λ v. total n (λ tape. weight (Some v))) (same env fits meets)
  same_returning s e _ same = absurd same

  -- an `if` whose test has this value
  total-branching : (e : Expression) (r q : Reaction) (env : List Value) (inputs : Valuation) (weight : Weight) (n : ℕ) (v : Value) → evaluation J env e ≡ v →
      reaction_total J (branching e r q) env inputs n weight ≡
      total n (λ tape. weight (outcome_value (chosen v (reaction_outcome J r env inputs tape) (reaction_outcome J q env inputs tape) (reaction_outcome J q env inputs tape))))
  total-branching e r q env inputs weight n v k =
      ap (λ u. total n (λ tape. weight (outcome_value (chosen u (reaction_outcome J r env inputs tape) (reaction_outcome J q env inputs tape) (reaction_outcome J q env inputs tape))))) k

  -- the test of an `if`
  same_test : (s : Surroundings) (e : Expression) (r q : Reaction) (x : Term) → MeanSame J s (expression_term e) x →
      MeanSame J s (reaction_term (branching e r q)) (reaction_term (branching (expression_or e x) r q))
  same_test s e r q (expression_term f) same = λ env fits meets inputs fitting weight n hr hq. total-branching e r q env inputs weight n (evaluation J env f) (same env fits meets)
  same_test s e r q _ same = absurd same

  -- the first part of a `bind`
  same_first : (s : Surroundings) (w : ℕ) (r q : Reaction) (x : Term) → MeanSame J s (reaction_term r) x →
      MeanSame J s (reaction_term (binding w r q)) (reaction_term (binding w (reaction_or r x) q))
  same_first s w r q (reaction_term t) same = λ env fits meets inputs fitting weight n hr ht.
      cancelled (2 ^ n) _ _ (pow_pos n) (
      reaction_total-binding J w r q env inputs n weight hr ∙
      same env fits meets inputs fitting (weight_then J q env inputs n weight) n (omega arith) (omega arith) ∙
      sym (reaction_total-binding J w t q env inputs n weight ht))
  same_first s w r q _ same = absurd same

  -- what the second part makes of an outcome of the width
  weighs_same : (w : ℕ) (r q : Reaction) (env : List Value) (inputs : Valuation) (n : ℕ) (weight : Weight) →
      ((v : Value) → length v ≡ w → reaction_total J r (v ∷ env) inputs n weight ≡ reaction_total J q (v ∷ env) inputs n weight) →
      (o : Outcome) → OutcomeFits w o → weight_then J r env inputs n weight (outcome_value o) ≡ weight_then J q env inputs n weight (outcome_value o)
  weighs_same w r q env inputs n weight h None fits = refl
  weighs_same w r q env inputs n weight h (Some o) fits = h o.0 fits

module _ (sig : Signature) (J : Interpretation) (interprets : Interprets sig J) where
  -- the arm of an `if` for a one
  same_arm-true : (s : Surroundings) (e : Expression) (r q : Reaction) (x : Term) → HasWidth sig s.widths e 1 →
      MeanSame J (in_arm s e true) (reaction_term r) x →
      MeanSame J s (reaction_term (branching e r q)) (reaction_term (branching e (reaction_or r x) q))
  same_arm-true s e r q (reaction_term t) typed same = λ env fits meets inputs fitting weight n hr ht.
      by_bit (evaluation J env e) (length-evaluation sig J interprets s.widths env e 1 fits typed)
      (λ k. total-branching J e r q env inputs weight n _ k ∙
      same env fits (k, meets) inputs fitting weight n (omega arith) (omega arith) ∙
      sym (total-branching J e t q env inputs weight n _ k))
      (λ k. total-branching J e r q env inputs weight n _ k ∙ sym (total-branching J e t q env inputs weight n _ k))
  same_arm-true s e r q _ typed same = absurd same

  -- the arm for a zero
  same_arm-false : (s : Surroundings) (e : Expression) (r q : Reaction) (x : Term) → HasWidth sig s.widths e 1 →
      MeanSame J (in_arm s e false) (reaction_term q) x →
      MeanSame J s (reaction_term (branching e r q)) (reaction_term (branching e r (reaction_or q x)))
  same_arm-false s e r q (reaction_term t) typed same = λ env fits meets inputs fitting weight n hq ht.
      by_bit (evaluation J env e) (length-evaluation sig J interprets s.widths env e 1 fits typed)
      (λ k. total-branching J e r q env inputs weight n _ k ∙ sym (total-branching J e r t env inputs weight n _ k))
      (λ k. total-branching J e r q env inputs weight n _ k ∙
      same env fits (k, meets) inputs fitting weight n (omega arith) (omega arith) ∙
      sym (total-branching J e r t env inputs weight n _ k))
  same_arm-false s e r q _ typed same = absurd same

  -- the second part of a `bind`
  same_second : (s : Surroundings) (w : ℕ) (r q : Reaction) (x : Term) → GivesWidth sig s.scope s.widths r w →
      MeanSame J (under_binder s w) (reaction_term q) x →
      MeanSame J s (reaction_term (binding w r q)) (reaction_term (binding w r (reaction_or q x)))
  same_second s w r q (reaction_term t) typed same = λ env fits meets inputs fitting weight n hq ht.
      cancelled (2 ^ n) _ _ (pow_pos n) (
      reaction_total-binding J w r q env inputs n weight hq ∙
      total_equal n _ _ (λ tape e. weighs_same J w q t env inputs n weight
      (λ v k. same (v ∷ env) (k, fits) (meets_lifted J v env s.conditions meets) inputs fitting weight n (omega arith) (omega arith))
      (reaction_outcome J r env inputs tape) (OutcomeFits-reaction_outcome sig J interprets s.scope s.widths env inputs r w tape fits fitting typed)) ∙
      sym (reaction_total-binding J w r t env inputs n weight ht))
  same_second s w r q _ typed same = absurd same

  -- at a place in a reaction
  pub same_in_reaction : (s : Surroundings) (r : Reaction) (w : ℕ) → GivesWidth sig s.scope s.widths r w → (place : List ℕ) (old new : Term) → term_at (reaction_term r) place ≡ Some old → MeanSame J (around s (reaction_term r) place) old new →
      MeanSame J s (reaction_term r) (term_with (reaction_term r) place new)
  same_in_reaction s r w typed [] old new at same = same_whole J s (reaction_term r) old new at same
  same_in_reaction s (returning e) w typed (zero ∷ place) old new at same = same_returning J s e _ (same_in_expression J s e place old new at same)
  same_in_reaction s (branching e r q) w typed (zero ∷ place) old new at same = same_test J s e r q _ (same_in_expression J s e place old new at same)
  same_in_reaction s (branching e r q) w typed (suc zero ∷ place) old new at same = same_arm-true s e r q _ typed.0 (same_in_reaction (in_arm s e true) r w typed.1 place old new at same)
  same_in_reaction s (branching e r q) w typed (suc (suc zero) ∷ place) old new at same = same_arm-false s e r q _ typed.0 (same_in_reaction (in_arm s e false) q w typed.2 place old new at same)
  same_in_reaction s (binding v r q) w typed (zero ∷ place) old new at same = same_first J s v r q _ (same_in_reaction s r v typed.0 place old new at same)
  same_in_reaction s (binding v r q) w typed (suc zero ∷ place) old new at same = same_second s v r q _ typed.0 (same_in_reaction (under_binder s v) q w typed.1 place old new at same)
  same_in_reaction s _ w typed _ old new at same = cc

  -- the reaction of an assignment
  same_assignment : (scope : Scope) (c : Channel) (r : Reaction) (x : Term) → MeanSame J (outermost scope) (reaction_term r) x → Alike J scope (assignment c r) (assignment c (reaction_or r x))
  same_assignment scope c r (reaction_term t) same = alike_assignments J scope c r t (λ inputs fitting absent weight n hr ht. same [] tt tt inputs fitting weight n hr ht)
  same_assignment scope c r _ same = absurd same

  -- the left part of a `par`
  same_left : (scope : Scope) (p q : Protocol) (x : Term) → IsTyped sig scope (parallel p q) → MeanSame J (outermost scope) (protocol_term p) x → Alike J scope (parallel p q) (parallel (protocol_or p x) q)
  same_left scope p q (protocol_term t) typed same = alike_beside_left J scope p t q same typed.2 (KeepsScope-protocol_valuation sig J interprets q scope typed.1)
  same_left scope p q _ typed same = absurd same

  -- the right part
  same_right : (scope : Scope) (p q : Protocol) (x : Term) → IsTyped sig scope (parallel p q) → MeanSame J (outermost scope) (protocol_term q) x → Alike J scope (parallel p q) (parallel p (protocol_or q x))
  same_right scope p q (protocol_term t) typed same = alike_beside_right J scope q t p same typed.2 (KeepsScope-protocol_valuation sig J interprets p scope typed.0)
  same_right scope p q _ typed same = absurd same

  -- what is below a hidden channel
  same_below : (scope : Scope) (c : Channel) (w : ℕ) (p : Protocol) (x : Term) → MeanSame J (outermost (scope_with c w scope)) (protocol_term p) x → Alike J scope (hiding c w p) (hiding c w (protocol_or p x))
  same_below scope c w p (protocol_term t) same = alike_under_hiding J scope c w p t same
  same_below scope c w p _ same = absurd same

  -- at a place in a protocol
  pub same_in_protocol : (scope : Scope) (p : Protocol) → IsTyped sig scope p → (place : List ℕ) (old new : Term) → term_at (protocol_term p) place ≡ Some old → MeanSame J (around (outermost scope) (protocol_term p) place) old new →
      MeanSame J (outermost scope) (protocol_term p) (term_with (protocol_term p) place new)
  same_in_protocol scope p typed [] old new at same = same_whole J (outermost scope) (protocol_term p) old new at same
  same_in_protocol scope (assignment c r) typed (zero ∷ place) old new at same = same_assignment scope c r _ (same_in_reaction (outermost scope) r typed.0 typed.2 place old new at same)
  same_in_protocol scope (parallel p q) typed (zero ∷ place) old new at same = same_left scope p q _ typed (same_in_protocol scope p typed.0 place old new at same)
  same_in_protocol scope (parallel p q) typed (suc zero ∷ place) old new at same = same_right scope p q _ typed (same_in_protocol scope q typed.1 place old new at same)
  same_in_protocol scope (hiding c w p) typed (zero ∷ place) old new at same = same_below scope c w p _ (same_in_protocol (scope_with c w scope) p typed.1 place old new at same)
  same_in_protocol scope _ typed _ old new at same = cc

-- a part of a typed protocol, replaced at its place by one that means the same there
pub equal_with_part : (sig : Signature) (scope : Scope) (written : List Channel) (p q : Protocol) (place : List ℕ) (old new : Term) → Typed sig scope p written → Typed sig scope q written →
    term_at (protocol_term p) place ≡ Some old → term_with (protocol_term p) place new ≡ protocol_term q →
    ((J : Interpretation) → Interprets sig J → MeanSame J (around (outermost scope) (protocol_term p) place) old new) →
    Equal sig scope written p q
equal_with_part sig scope written p q place old new typed typed' at with same =
    alike_is_equal sig scope written p q typed typed' (λ J i.
    subst (MeanSame J (outermost scope) (protocol_term p)) with (same_in_protocol sig J i scope p typed.typed place old new at (same J i)))
