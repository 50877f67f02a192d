use Rattle.ipdl_term.specs.Same.{same_protocol-Decides}
use Rattle.ipdl_term.proofs.Deciding.{told}
use Rattle.ipdl_term.proofs.same.ProtoPartialEq.eq.Goals as goal

pub returns-clause-same : goal.returns-clause-same
returns-clause-same c = told _ _ c.is_same_proto.ensures (same_protocol-Decides _ _)
