use Rattle.ipdl_rules_r.proofs.AnswerLaws.{answered_instance}
use Rattle.ipdl_rules_r.proofs.applying.apply_react.Goals as goal

pub returns-clause-instance : goal.returns-clause-instance
returns-clause-instance c = answered_instance _ _ _ _ c.applied.ensures
