use Rattle.ipdl_tree.proofs.Openings.{added-groups_of, added-AreWithin}
use Rattle.ipdl_tree.proofs.groups.OpenGroups.add.Goals as goal

pub invariant_of-self-2 : goal.invariant_of-self-2
invariant_of-self-2 c = added-AreWithin _ _ _ _ c.in_ok-push.ensures.items c.self.invariant

pub returns : goal.returns
returns c = λ complete. added-groups_of _ _ _ c.args.tree _ complete c.self.view_is c.in_ok-push.ensures.items c.self.invariant c.requires
