-- The outer variables of a step: the first one that has no binder around the place, and the step with all of them settled.
use Rattle.std.specs.Prelude.{ℕ, ◌+◌, List, [], ◌∷◌, Option, None}
use Rattle.ipdl_term.specs.Rules.{Rule, Argument, expression_argument, rule_arguments}
use Rattle.ipdl_term.specs.Rules as R
use Rattle.ipdl_term.specs.Steps.{Step, plain, rev, invoke}
use Rattle.ipdl_term.specs.Variables.{first_number, settled_expression, settled_term, unsettled_in_expression, unsettled_number}

-- The depth is the number of binders around the place of the step.

-- the first outer variable of some arguments, in preorder, that has no binder
abbrev pub unsettled_in_arguments : (depth : ℕ) → List Argument → Option ℕ
unsettled_in_arguments depth [] = None
unsettled_in_arguments depth (expression_argument binders e ∷ arguments) =
    first_number (unsettled_in_expression (depth + binders) e) (unsettled_in_arguments depth arguments)
unsettled_in_arguments depth (_ ∷ arguments) = unsettled_in_arguments depth arguments

-- that of a step: in the arguments of its rule, and then in the term that is written out
abbrev pub unsettled_in_step : (depth : ℕ) → Step → Option ℕ
unsettled_in_step depth (plain place rule) = unsettled_in_arguments depth (rule_arguments rule)
unsettled_in_step depth (rev place rule term) =
    first_number (unsettled_in_arguments depth (rule_arguments rule)) (unsettled_number depth term)
unsettled_in_step depth (invoke place name direction pairs) = None

-- the argument settled: an expression under the binders of the place and its own
abbrev pub settled_argument : (depth : ℕ) → Argument → Argument
settled_argument depth (expression_argument binders e) =
    expression_argument binders (settled_expression (depth + binders) e)
settled_argument depth argument = argument

-- the rule with its arguments settled
abbrev pub settled_rule : (depth : ℕ) → Rule → Rule
settled_rule depth (R.mask e) = R.mask (settled_expression (depth + 1) e)
settled_rule depth (R.table k e) = R.table k (settled_expression depth e)
settled_rule depth (R.lin e) = R.lin (settled_expression depth e)
settled_rule depth rule = rule

-- the step with its rule and its term settled
abbrev pub settled_step : (depth : ℕ) → Step → Step
settled_step depth (plain place rule) = plain place (settled_rule depth rule)
settled_step depth (rev place rule term) = rev place (settled_rule depth rule) (settled_term depth term)
settled_step depth (invoke place name direction pairs) = invoke place name direction pairs
