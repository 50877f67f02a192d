use Rattle.ipdl_laws.proofs.Monotone.{reaction_is_monotone}
use Rattle.ipdl_laws.proofs.meaning.reaction_is_monotone.Goals as goal

pub returns : goal.returns
returns c = reaction_is_monotone
