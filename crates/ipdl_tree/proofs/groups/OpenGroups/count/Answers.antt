use Rattle.std.proofs.Common.{arith}
use Rattle.ipdl_tree.proofs.Openings.{length-groups_of}
use Rattle.ipdl_tree.proofs.groups.OpenGroups.count.Goals as goal

pub returns : goal.returns
returns c = omega (arith, c.len.ensures, length-groups_of _ _ _ c.self.view_is)
