use Rattle.ipdl_laws.proofs.RenamingPairs.{pairs_capture_none}
use Rattle.ipdl_laws.proofs.renaming.pairs_capture_none.Goals as goal

pub returns : goal.returns
returns c = pairs_capture_none
