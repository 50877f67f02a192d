use Rattle.ipdl_laws.proofs.PlacedReactions.{typed_with_reaction}
use Rattle.ipdl_rules_r.proofs.instances.typed_with_reaction.Goals as goal

pub returns : goal.returns
returns c = typed_with_reaction
