use Rattle.std.proofs.Common.{suc, ◌+◌, length}
use Rattle.ipdl_tree.specs.Views.{located, all_located}
use Rattle.ipdl_read_terms.proofs.Weights.{tree_weight, forest_weight}
use Rattle.ipdl_read_terms.proofs.protocols.+protocol.Given as goal

abbrev pub decreases-read_proto : goal.decreases-read_proto
decreases-read_proto l = tree_weight (located l.tree.now)

abbrev pub decreases-read_list : goal.decreases-read_list
decreases-read_list l = forest_weight (all_located l.operands.now) + 2

abbrev pub decreases-read_par : goal.decreases-read_par
decreases-read_par l = forest_weight (all_located l.operands.now) + 1

abbrev pub decreases-read_new : goal.decreases-read_new
decreases-read_new l = forest_weight (all_located l.operands.now) + 1

abbrev pub decreases-read_parts : goal.decreases-read_parts
decreases-read_parts l = suc (tree_weight (located l.first.now) + forest_weight (all_located l.rest.now))

abbrev pub decreases-read_hidden : goal.decreases-read_hidden
decreases-read_hidden l = suc (length l.ports.now + tree_weight (located l.body.now))

abbrev pub decreases-read_under : goal.decreases-read_under
decreases-read_under l = length l.ports.now + tree_weight (located l.body.now) + 2
