-- An expression and what a rule makes of it have one value under every interpretation, and so each may stand in the place
-- of the other in a protocol.
use Rattle.std.proofs.Common.{◌≡◌, ℕ, zero, suc, List, [], ◌∷◌, ◌++◌, Some, sym, subst, reverse}
use Rattle.std.specs.Prelude.{take}
use Rattle.std.proofs.lemmas.List.{reverse-reverse}
use Rattle.ipdl_laws.proofs.Replacing.{equal_with_typed_part}
use Rattle.ipdl_laws.specs.MeanSame.{MeanSame}
use Rattle.ipdl_linear.proofs.FormValues.{same_forms-evaluation}
use Rattle.ipdl_rules_r.specs.Expressions.{IsExpressionInstance, question_at}
use Rattle.ipdl_term.specs.Equality.{Equal}
use Rattle.ipdl_term.specs.Interpretations.{Signature, Interpretation, Interprets, evaluation}
use Rattle.ipdl_term.specs.Places.{term_at, term_with}
use Rattle.ipdl_term.specs.Rules.{Rule}
use Rattle.ipdl_term.specs.Rules as R
use Rattle.ipdl_term.specs.Surroundings.{Surroundings, Condition, FitWidths, Meets, outermost, around}
use Rattle.ipdl_term.specs.Terms.{Value, Channel, Expression, Protocol, protocol_term, expression_term}
use Rattle.ipdl_term.specs.Typing.{HasWidth, Scope, Typed}
use Rattle.ipdl_truth.proofs.Interpretations.{agree-everywhere_under_all}
use Rattle.ipdl_typing.proofs.Index.{reverse-cons}

FitWidths-append : (widths others : List ℕ) (env further : List Value) → FitWidths widths env → FitWidths others further → FitWidths (widths ++ others) (env ++ further)
FitWidths-append [] others [] further h k = k
FitWidths-append [] others (v ∷ env) further h k = absurd h
FitWidths-append (w ∷ widths) others [] further h k = absurd h
FitWidths-append (w ∷ widths) others (v ∷ env) further h k = (h.0, FitWidths-append widths others env further h.1 k)

-- from the other end
FitWidths-reverse : (widths : List ℕ) (env : List Value) → FitWidths widths env → FitWidths (reverse widths) (reverse env)
FitWidths-reverse [] [] h = tt
FitWidths-reverse [] (v ∷ env) h = absurd h
FitWidths-reverse (w ∷ widths) [] h = absurd h
FitWidths-reverse (w ∷ widths) (v ∷ env) h =
    rw (reverse-cons w widths, reverse-cons v env)
    (FitWidths-append (reverse widths) (w ∷ []) (reverse env) (v ∷ []) (FitWidths-reverse widths env h.1) (h.0, tt))

-- the first of conditions that are met are met
Meets-take : (J : Interpretation) (env : List Value) (k : ℕ) (conditions : List Condition) → Meets J env conditions → Meets J env (take k conditions)
Meets-take J env zero conditions h = tt
Meets-take J env (suc k) [] h = tt
Meets-take J env (suc k) (c ∷ conditions) h = (h.0, Meets-take J env k conditions h.1)

module _ (sig : Signature) where
  pub expression_instance_means : (J : Interpretation) → Interprets sig J → (s : Surroundings) (rule : Rule) (left right : Expression) (v w : ℕ) → HasWidth sig s.widths left v → HasWidth sig s.widths right w →
      IsExpressionInstance sig s.widths s.conditions rule left right → MeanSame J s (expression_term left) (expression_term right)
  expression_instance_means J interprets s (R.table k e) left right v w typed typed' h = λ env fits meets.
      let q = question_at sig s.widths s.conditions k left e in
      let met : Meets J (reverse (reverse env)) (take k s.conditions) =
      rw (reverse-reverse env) (Meets-take J env k s.conditions meets) in
      let same : evaluation J (reverse (reverse env)) left ≡ evaluation J (reverse (reverse env)) e =
      agree-everywhere_under_all q J (reverse env) h.1.tables h.1.agree interprets (FitWidths-reverse s.widths env fits) met in
      let P : List Value → Type 0 = λ x. evaluation J x left ≡ evaluation J x e in
      rw h.2 (subst P (reverse-reverse env) same)
  expression_instance_means J interprets s (R.lin e) left right v w typed typed' h = λ env fits meets.
      let there : (ws : List ℕ) → s.widths ≡ ws → FitWidths ws env = λ ws is. subst (λ x. FitWidths x env) is fits in
      let same = sym (reverse-reverse s.widths) in
      let alike = same_forms-evaluation sig J interprets (reverse (reverse s.widths)) env (there _ same) left e v w
      (subst (λ ws. HasWidth sig ws left v) same typed) (subst (λ ws. HasWidth sig ws e w) same (subst (λ x. HasWidth sig s.widths x w) h.1 typed')) h.0.same in
      rw h.1 alike
  expression_instance_means J interprets s _ left right v w typed typed' h = absurd h

  pub expression_instance_at_place : (scope : Scope) (written : List Channel) (p q : Protocol) (place : List ℕ) (rule : Rule) (left right : Expression) → Typed sig scope p written → Typed sig scope q written →
      term_at (protocol_term p) place ≡ Some (expression_term left) → term_with (protocol_term p) place (expression_term right) ≡ protocol_term q →
      (let s = around (outermost scope) (protocol_term p) place in IsExpressionInstance sig s.widths s.conditions rule left right) →
      Equal sig scope written p q
  expression_instance_at_place scope written p q place rule left right typed typed' at with instance =
      equal_with_typed_part sig scope written p q place (expression_term left) (expression_term right) typed typed' at tt with
      (λ one other tests J interprets.
      expression_instance_means J interprets (around (outermost scope) (protocol_term p) place) rule left right one.0 other.0 one.1 other.1 instance)
