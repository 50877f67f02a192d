use Rattle.ipdl_rules_r.proofs.ExpressionMeanings.{expression_instance_at_place}
use Rattle.ipdl_rules_r.proofs.expressions.expression_instance_at_place.Goals as goal

pub returns : goal.returns
returns c = expression_instance_at_place
