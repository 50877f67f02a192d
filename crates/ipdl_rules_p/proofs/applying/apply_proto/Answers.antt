use Rattle.ipdl_rules_p.proofs.AnswerLaws.{answered_instance, no_match_told, side_told, nodes_told}
use Rattle.ipdl_rules_p.proofs.applying.apply_proto.Goals as goal

pub returns-clause-instance : goal.returns-clause-instance
returns-clause-instance c = answered_instance _ _ _ c.applied.ensures

pub returns-clause-no_match : goal.returns-clause-no_match
returns-clause-no_match c = no_match_told _ _ c.applied.ensures

pub returns-clause-side : goal.returns-clause-side
returns-clause-side c = side_told _ _ c.applied.ensures

pub returns-clause-nodes : goal.returns-clause-nodes
returns-clause-nodes c = nodes_told _ _ c.applied.ensures
