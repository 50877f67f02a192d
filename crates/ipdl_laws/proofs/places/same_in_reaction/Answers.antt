use Rattle.ipdl_laws.proofs.PartLaws.{same_in_reaction}
use Rattle.ipdl_laws.proofs.places.same_in_reaction.Goals as goal

pub returns : goal.returns
returns c = same_in_reaction
