-- What surrounds a place in a term: the channels that are visible there, and the binders and the tests of `if` that are
-- passed on the way to it.
use Rattle.std.specs.Prelude.{◌≡◌, ℕ, zero, suc, Bool, true, false, List, [], ◌∷◌, length, map}
use Rattle.std.specs.Option.{option_map_or}
use Rattle.ipdl_term.specs.Interpretations.{Signature, Interpretation, evaluation}
use Rattle.ipdl_term.specs.Places.{child}
use Rattle.ipdl_term.specs.Terms.{Value, Expression, branching, binding, assignment, hiding, Term, protocol_term, reaction_term, expression_term}
use Rattle.ipdl_term.specs.Typing.{Scope, scope_with, HasWidth, GivesWidth, IsTyped}
use Rattle.ipdl_term.specs.Variables.{lifted_expression}
use Rattle.ipdl_term.specs.Views.{expression_of}
use Rattle.ipdl_term.specs.declared.part.Condition.{Condition as HeldCondition}

-- the test of an `if`, and its value in the arm that was entered
pub record Condition : Type 0 where
  pub test : Expression
  pub value : Bool

-- the condition that the program's one stands for
abbrev pub condition_of : HeldCondition → Condition
condition_of c = record { test = expression_of c.test; value = c.value }

-- the condition under one binder more
abbrev pub lifted_condition : Condition → Condition
lifted_condition c = record { test = lifted_expression c.test 0 1; value = c.value }

-- the visible channels, the widths of the binders, and the conditions; binders and conditions innermost first
pub record Surroundings : Type 0 where
  pub scope : Scope
  pub widths : List ℕ
  pub conditions : List Condition

-- around a whole protocol, and around the reaction of an assignment: no binder, no condition
abbrev pub outermost : Scope → Surroundings
outermost scope = record { scope = scope; widths = []; conditions = [] }

-- in an arm of an `if`, whose test has this value there
abbrev pub in_arm : Surroundings → Expression → Bool → Surroundings
in_arm s test value = record s { conditions = record { test = test; value = value } ∷ s.conditions }

-- under a binder of a width
abbrev pub under_binder : Surroundings → ℕ → Surroundings
under_binder s w = record { scope = s.scope; widths = w ∷ s.widths; conditions = map lifted_condition s.conditions }

-- around a child of a term
abbrev pub around_child : Surroundings → Term → ℕ → Surroundings
around_child s (protocol_term (assignment c r)) n = outermost s.scope
around_child s (protocol_term (hiding c w p)) n = record s { scope = scope_with c w s.scope }
around_child s (reaction_term (branching e r q)) (suc zero) = in_arm s e true
around_child s (reaction_term (branching e r q)) (suc (suc zero)) = in_arm s e false
around_child s (reaction_term (binding w r q)) (suc zero) = under_binder s w
around_child s _ _ = s

-- around the part at a place
abbrev pub around : Surroundings → Term → List ℕ → Surroundings
around s t [] = s
around s t (n ∷ place) = option_map_or (λ c. around (around_child s t n) c.part place) (child t n) s

-- ---- types

-- the term is typed there
abbrev pub IsTypedAt : Signature → Surroundings → Term → Type 0
IsTypedAt sig s (expression_term e) = (w : ℕ) × HasWidth sig s.widths e w
IsTypedAt sig s (reaction_term r) = (w : ℕ) × GivesWidth sig s.scope s.widths r w
IsTypedAt sig s (protocol_term p) = IsTyped sig s.scope p

-- each test gives one bit
abbrev pub AreTests : Signature → List ℕ → List Condition → Type 0
AreTests sig widths [] = Unit {0}
AreTests sig widths (c ∷ conditions) = HasWidth sig widths c.test 1 × AreTests sig widths conditions

-- ---- values

-- the values of the variables have these widths
abbrev pub FitWidths : List ℕ → List Value → Type 0
FitWidths [] [] = Unit {0}
FitWidths (w ∷ widths) (v ∷ env) = (length v ≡ w) × FitWidths widths env
FitWidths _ _ = ⊥

-- each test has the value of its arm
abbrev pub Meets : Interpretation → List Value → List Condition → Type 0
Meets J env [] = Unit {0}
Meets J env (c ∷ conditions) = (evaluation J env c.test ≡ c.value ∷ []) × Meets J env conditions
