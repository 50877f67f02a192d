-- What is asked: whether two expressions are equal, where binders and conditions surround them.
use Rattle.std.specs.Prelude.{ℕ, List, ◌∷◌, Option, map, reverse, find}
use Rattle.ipdl_sig.specs.declared.symbol.Symbol.{Symbol}
use Rattle.ipdl_term.specs.Interpretations.{Signature}
use Rattle.ipdl_term.specs.Surroundings.{Condition, condition_of}
use Rattle.ipdl_term.specs.Terms.{Value, Expression}
use Rattle.ipdl_term.specs.Views.{expression_of}
use Rattle.ipdl_term.specs.declared.expression.Expr.{Expr}
use Rattle.ipdl_term.specs.declared.part.Condition.{Condition as HeldCondition}
use Rattle.ipdl_truth.specs.Abstract.{is_abstract, symbols_in_all}
use Rattle.ipdl_truth.specs.FreeVariables.{free_of, total_width}
use Rattle.ipdl_truth.specs.Weights.{total_weight}
use Rattle.ipdl_typing.specs.Signatures.{signature_of}

-- the widths of the binders stand from the outermost
pub record Question : Type 0 where
  pub sig : Signature
  pub widths : List ℕ
  pub left : Expression
  pub right : Expression
  pub conditions : List Condition

-- the question that the program's values stand for
abbrev pub question_of : List Symbol → List ℕ → Expr → Expr → List HeldCondition → Question
question_of symbols widths left right conditions =
    record {
      sig = signature_of symbols;
      widths = widths;
      left = expression_of left;
      right = expression_of right;
      conditions = map condition_of conditions;
    }

-- the tests of conditions
abbrev pub tests_of : List Condition → List Expression
tests_of conditions = map (λ (c : Condition). c.test) conditions

-- the two expressions, and then the tests in order
abbrev pub expressions_in : Question → List Expression
expressions_in q = q.left ∷ q.right ∷ tests_of q.conditions

-- the first abstract symbol in them
abbrev pub first_abstract : Question → Option ℕ
first_abstract q = find (is_abstract q.sig) (symbols_in_all (expressions_in q))

-- the sum of the widths of all their subexpressions
abbrev pub weight_of : Question → ℕ
weight_of q = total_weight q.sig (reverse q.widths) (expressions_in q)

-- the free variables with their widths, and the sum of these
abbrev pub free_variables : Question → List (ℕ × ℕ)
free_variables q = free_of (expressions_in q) 0 q.widths

abbrev pub free_bits : Question → ℕ
free_bits q = total_width (free_variables q)

-- the values that the free variables have where the binders have these, the outermost first
abbrev pub valuation_of : Question → List Value → List (ℕ × Value)
valuation_of q env = free_of (expressions_in q) 0 env
