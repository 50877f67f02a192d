use Rattle.ipdl_top.proofs.Meanings.{neighbours_of_answered, exact_sides_of_answered, sides_of_answered}
use Rattle.ipdl_top.proofs.laws.chains_mean.Goals as goal

pub returns-clause-neighbours : goal.returns-clause-neighbours
returns-clause-neighbours c = neighbours_of_answered

pub returns-clause-exact : goal.returns-clause-exact
returns-clause-exact c = exact_sides_of_answered

pub returns-clause-sides : goal.returns-clause-sides
returns-clause-sides c = sides_of_answered
