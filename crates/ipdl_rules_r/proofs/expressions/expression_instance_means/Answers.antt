use Rattle.ipdl_rules_r.proofs.ExpressionMeanings.{expression_instance_means}
use Rattle.ipdl_rules_r.proofs.expressions.expression_instance_means.Goals as goal

pub returns : goal.returns
returns c = expression_instance_means
