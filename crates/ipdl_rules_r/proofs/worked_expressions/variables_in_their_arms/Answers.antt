use Rattle.ipdl_rules_r.proofs.WorkedExpressionRows.{inner_instance, outer_instance, outer_by_innermost_alone, three_conditions}
use Rattle.ipdl_rules_r.proofs.worked_expressions.variables_in_their_arms.Goals as goal

pub returns-clause-inner : goal.returns-clause-inner
returns-clause-inner c = inner_instance

pub returns-clause-outer : goal.returns-clause-outer
returns-clause-outer c = outer_instance

pub returns-clause-innermost_alone : goal.returns-clause-innermost_alone
returns-clause-innermost_alone c = outer_by_innermost_alone

pub returns-clause-too_many : goal.returns-clause-too_many
returns-clause-too_many c = three_conditions
