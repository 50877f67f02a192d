use Rattle.std.proofs.Common.{sym, subst, length, reverse}
use Rattle.ipdl_tree.specs.Openings.{AreWithin}
use Rattle.ipdl_tree.proofs.Openings.{off-AreWithin}
use Rattle.ipdl_tree.proofs.groups.OpenGroups.close.Goals as goal

pub invariant_of-self-in_err-trees : goal.invariant_of-self-in_err-trees
invariant_of-self-in_err-trees c =
    subst (λ trees. AreWithin (reverse c.pop.new.self.items) (length trees.items)) (sym c.in_err-trees.ensures.err) (off-AreWithin _ _ c.in-Some.opening _ c.in-Some.ensures.items c.self.invariant)
