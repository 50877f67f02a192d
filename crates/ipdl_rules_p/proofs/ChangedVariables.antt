-- Variables that grow by one or go down by one: they have room, and the nodes are as many.
use Rattle.ipdl_laws.proofs.ChangedSizes.{lifted_reaction-nodes, lowered_reaction-nodes, LiftFitsInReaction-greatest}

pub ruleset lift_fits = (LiftFitsInReaction-greatest)

pub ruleset nodes = (lifted_reaction-nodes, lowered_reaction-nodes)
