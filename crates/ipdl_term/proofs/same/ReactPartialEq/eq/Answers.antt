use Rattle.ipdl_term.specs.Same.{same_reaction-Decides}
use Rattle.ipdl_term.proofs.Deciding.{told}
use Rattle.ipdl_term.proofs.same.ReactPartialEq.eq.Goals as goal

pub returns-clause-same : goal.returns-clause-same
returns-clause-same c = told _ _ c.is_same_react.ensures (same_reaction-Decides _ _)
