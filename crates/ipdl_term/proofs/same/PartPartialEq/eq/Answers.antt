use Rattle.ipdl_term.specs.Same.{same_term-Decides}
use Rattle.ipdl_term.proofs.Deciding.{told}
use Rattle.ipdl_term.proofs.same.PartPartialEq.eq.Goals as goal

pub returns-clause-same : goal.returns-clause-same
returns-clause-same c = told _ _ c.is_same_part.ensures (same_term-Decides _ _)
