-- Each call goes to a part of the reaction, or from putting a part before the rest to making the part.
use Rattle.std.proofs.Common.{◌+◌, ◌*◌}
use Rattle.ipdl_term.specs.Sizes.{reaction_nodes}
use Rattle.ipdl_term.specs.Views.{reaction_of}
use Rattle.ipdl_norm.proofs.tidying.+tidying.Given as goal

abbrev pub decreases-before : goal.decreases-before
decreases-before l = 2 * reaction_nodes (reaction_of l.term.now) + 1

abbrev pub decreases-tidy_counted : goal.decreases-tidy_counted
decreases-tidy_counted l = 2 * reaction_nodes (reaction_of l.term.now)

abbrev pub decreases-tidy_cond : goal.decreases-tidy_cond
decreases-tidy_cond l = 2 * (reaction_nodes (reaction_of l.r.now) + reaction_nodes (reaction_of l.s.now)) + 1
