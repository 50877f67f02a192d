-- The value of a term after a lift, and after an expression is put for a variable.
use Rattle.std.proofs.Common.{◌≡◌, ℕ, zero, suc, ◌+◌, ◌-◌, ◌<◌, Bool, true, false, List, [], ◌∷◌, ◌++◌, length, Some, None, refl, sym, ap, ◌∙◌, arith, add-zero, add-suc}
use Rattle.std.proofs.lemmas.Bool.Decides.{nat_tests}
use Rattle.std.specs.Prelude.{if◌then◌else◌, nat_eq, nat_lt}
use Rattle.ipdl_term.specs.Interpretations.{Interpretation, variable_value, evaluation}
use Rattle.ipdl_term.specs.Reactions.{Outcome, continued, reaction_outcome}
use Rattle.ipdl_term.specs.Terms.{Value, Expression, literal, variable, outer, application, exclusive, conjunction, negation, concatenation, segment, equality, selection, Reaction, returning, flipping, reading, branching, binding}
use Rattle.ipdl_term.specs.Valuations.{Valuation}
use Rattle.ipdl_term.specs.Variables.{lifted_number, lifted_expression, lifted_reaction, put_expression, put_reaction}

-- variable 0 stays where those from a later one on are lifted
lifted_number-zero : (m k : ℕ) → lifted_number (suc m) k zero ≡ zero
lifted_number-zero m k = grind (arith, nat_tests)

-- a variable further, where those from one further on are lifted
lifted_number-suc : (m k n : ℕ) → lifted_number (suc m) k (suc n) ≡ suc (lifted_number m k n)
lifted_number-suc m k n = grind (arith, nat_tests)

-- every variable is lifted
pub lifted_number-all : (k n : ℕ) → lifted_number zero k n ≡ n + k
lifted_number-all k n = grind (arith, nat_tests)

-- a variable behind extra values
variable_value_past : (extra env : List Value) (n : ℕ) → variable_value (extra ++ env) (n + length extra) ≡ variable_value env n
variable_value_past [] env n = rw add-zero
variable_value_past (v ∷ extra) env n = rw (add-suc n (length extra)) (variable_value_past extra env n)

-- a lifted variable has its value behind extra values
variable_value-lifted : (near extra env : List Value) (n : ℕ) → variable_value (near ++ (extra ++ env)) (lifted_number (length near) (length extra) n) ≡ variable_value (near ++ env) n
variable_value-lifted [] extra env n = ap (variable_value (extra ++ env)) (lifted_number-all (length extra) n) ∙ variable_value_past extra env n
variable_value-lifted (v ∷ near) extra env zero = ap (variable_value (v ∷ (near ++ (extra ++ env)))) (lifted_number-zero (length near) (length extra))
variable_value-lifted (v ∷ near) extra env (suc n) = ap (variable_value (v ∷ (near ++ (extra ++ env)))) (lifted_number-suc (length near) (length extra) n) ∙ variable_value-lifted near extra env n

module _ (J : Interpretation) where
  -- a lifted expression has its value behind extra values
  pub evaluation-lifted : (near extra env : List Value) (e : Expression) → evaluation J (near ++ (extra ++ env)) (lifted_expression e (length near) (length extra)) ≡ evaluation J (near ++ env) e
  evaluation-lifted near extra env (literal bits) = refl
  evaluation-lifted near extra env (variable n) = variable_value-lifted near extra env n
  evaluation-lifted near extra env (outer n) = refl
  evaluation-lifted near extra env (application f e) = rw (evaluation-lifted near extra env e)
  evaluation-lifted near extra env (exclusive a b) = rw (evaluation-lifted near extra env a, evaluation-lifted near extra env b)
  evaluation-lifted near extra env (conjunction a b) = rw (evaluation-lifted near extra env a, evaluation-lifted near extra env b)
  evaluation-lifted near extra env (negation a) = rw (evaluation-lifted near extra env a)
  evaluation-lifted near extra env (concatenation a b) = rw (evaluation-lifted near extra env a, evaluation-lifted near extra env b)
  evaluation-lifted near extra env (segment i n a) = rw (evaluation-lifted near extra env a)
  evaluation-lifted near extra env (equality a b) = rw (evaluation-lifted near extra env a, evaluation-lifted near extra env b)
  evaluation-lifted near extra env (selection c a b) = rw (evaluation-lifted near extra env c, evaluation-lifted near extra env a, evaluation-lifted near extra env b)

  -- an outcome that goes on in equal ways
  continued_equal : (o : Outcome) (f g : Value → List Bool → Outcome) → ((v : Value) (rest : List Bool) → f v rest ≡ g v rest) → continued o f ≡ continued o g
  continued_equal None f g e = refl
  continued_equal (Some r) f g e = e r.0 r.1

  -- a lifted reaction has its outcome behind extra values
  pub reaction_outcome-lifted : (near extra env : List Value) (r : Reaction) (inputs : Valuation) (tape : List Bool) → reaction_outcome J (lifted_reaction r (length near) (length extra)) (near ++ (extra ++ env)) inputs tape ≡ reaction_outcome J r (near ++ env) inputs tape
  reaction_outcome-lifted near extra env (returning e) inputs tape = rw (evaluation-lifted near extra env e)
  reaction_outcome-lifted near extra env (flipping w) inputs tape = refl
  reaction_outcome-lifted near extra env (reading c) inputs tape = refl
  reaction_outcome-lifted near extra env (branching e r s) inputs tape = rw (evaluation-lifted near extra env e, reaction_outcome-lifted near extra env r inputs tape, reaction_outcome-lifted near extra env s inputs tape)
  reaction_outcome-lifted near extra env (binding w r s) inputs tape =
      rw (reaction_outcome-lifted near extra env r inputs tape) (continued_equal _ _ _ (λ v rest. reaction_outcome-lifted (v ∷ near) extra env s inputs rest))

-- a near variable has its value whatever stands behind
variable_value_front : (near rest rest' : List Value) (n : ℕ) → n < length near → variable_value (near ++ rest) n ≡ variable_value (near ++ rest') n
variable_value_front [] rest rest' n h = absurd (omega arith)
variable_value_front (v ∷ near) rest rest' zero h = refl
variable_value_front (v ∷ near) rest rest' (suc n) h = variable_value_front near rest rest' n (omega arith)

-- the first variable behind the near ones
variable_value_seam : (near env : List Value) (v : Value) → variable_value (near ++ (v ∷ env)) (length near) ≡ v
variable_value_seam [] env v = refl
variable_value_seam (u ∷ near) env v = variable_value_seam near env v

-- a variable past one value that is left out
variable_value_left_out : (near env : List Value) (v : Value) (n : ℕ) → length near < n → variable_value (near ++ env) (n - 1) ≡ variable_value (near ++ (v ∷ env)) n
variable_value_left_out [] env v zero h = absurd (omega arith)
variable_value_left_out [] env v (suc n) h = let e : suc n - 1 ≡ n = omega arith in rw e
variable_value_left_out (u ∷ near) env v zero h = absurd (omega arith)
variable_value_left_out (u ∷ near) env v (suc zero) h = absurd (omega arith)
variable_value_left_out (u ∷ near) env v (suc (suc n)) h =
    let e : suc (suc n) - 1 ≡ suc n = omega arith in
    let e' : suc n - 1 ≡ n = omega arith in
    let ih = variable_value_left_out near env v (suc n) (omega arith) in
    rw e (rw e' at ih)

module _ (J : Interpretation) where
  -- what stands for a variable has its value
  evaluation-put_number : (near env : List Value) (v : Expression) (n : ℕ) (b c : Bool) → nat_lt n (length near) ≡ b → nat_eq n (length near) ≡ c → evaluation J (near ++ env) (if b then variable n else (if c then lifted_expression v 0 (length near) else variable (n - 1))) ≡ variable_value (near ++ (evaluation J env v ∷ env)) n
  evaluation-put_number near env v n true c p q = variable_value_front near env _ n (grind (arith, nat_tests))
  evaluation-put_number near env v n false true p q =
      let e : n ≡ length near = grind (arith, nat_tests) in
      rw e (evaluation-lifted J [] near env v ∙ sym (variable_value_seam near env (evaluation J env v)))
  evaluation-put_number near env v n false false p q = variable_value_left_out near env (evaluation J env v) n (grind (arith, nat_tests))

  -- an expression put for the variable behind the near ones
  pub evaluation-put_expression : (near env : List Value) (b v : Expression) → evaluation J (near ++ env) (put_expression (length near) b v) ≡ evaluation J (near ++ (evaluation J env v ∷ env)) b
  evaluation-put_expression near env (literal bits) v = refl
  evaluation-put_expression near env (variable n) v = evaluation-put_number near env v n _ _ refl refl
  evaluation-put_expression near env (outer n) v = refl
  evaluation-put_expression near env (application f e) v = rw (evaluation-put_expression near env e v)
  evaluation-put_expression near env (exclusive a b) v = rw (evaluation-put_expression near env a v, evaluation-put_expression near env b v)
  evaluation-put_expression near env (conjunction a b) v = rw (evaluation-put_expression near env a v, evaluation-put_expression near env b v)
  evaluation-put_expression near env (negation a) v = rw (evaluation-put_expression near env a v)
  evaluation-put_expression near env (concatenation a b) v = rw (evaluation-put_expression near env a v, evaluation-put_expression near env b v)
  evaluation-put_expression near env (segment i n a) v = rw (evaluation-put_expression near env a v)
  evaluation-put_expression near env (equality a b) v = rw (evaluation-put_expression near env a v, evaluation-put_expression near env b v)
  evaluation-put_expression near env (selection c a b) v = rw (evaluation-put_expression near env c v, evaluation-put_expression near env a v, evaluation-put_expression near env b v)

  -- an expression put for the variable behind the near ones, in a reaction
  reaction_outcome-put_reaction : (near env : List Value) (r : Reaction) (v : Expression) (inputs : Valuation) (tape : List Bool) → reaction_outcome J (put_reaction (length near) r v) (near ++ env) inputs tape ≡ reaction_outcome J r (near ++ (evaluation J env v ∷ env)) inputs tape
  reaction_outcome-put_reaction near env (returning e) v inputs tape = rw (evaluation-put_expression near env e v)
  reaction_outcome-put_reaction near env (flipping w) v inputs tape = refl
  reaction_outcome-put_reaction near env (reading c) v inputs tape = refl
  reaction_outcome-put_reaction near env (branching e r s) v inputs tape = rw (evaluation-put_expression near env e v, reaction_outcome-put_reaction near env r v inputs tape, reaction_outcome-put_reaction near env s v inputs tape)
  reaction_outcome-put_reaction near env (binding w r s) v inputs tape =
      rw (reaction_outcome-put_reaction near env r v inputs tape) (continued_equal J _ _ _ (λ u rest. reaction_outcome-put_reaction (u ∷ near) env s v inputs rest))

  -- an expression put for variable 0
  pub evaluation_of_put : (env : List Value) (b v : Expression) → evaluation J env (put_expression 0 b v) ≡ evaluation J (evaluation J env v ∷ env) b
  evaluation_of_put env b v = evaluation-put_expression [] env b v

  -- an expression put for variable 0 of a reaction
  pub outcome_of_put : (env : List Value) (r : Reaction) (v : Expression) (inputs : Valuation) (tape : List Bool) → reaction_outcome J (put_reaction 0 r v) env inputs tape ≡ reaction_outcome J r (evaluation J env v ∷ env) inputs tape
  outcome_of_put env r v inputs tape = reaction_outcome-put_reaction [] env r v inputs tape
