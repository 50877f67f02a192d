use Rattle.ipdl_laws.proofs.RenamingPairs.{pairs_are_injective}
use Rattle.ipdl_laws.proofs.renaming.pairs_are_injective.Goals as goal

pub returns : goal.returns
returns c = pairs_are_injective
