use Rattle.ipdl_laws.proofs.Replacing.{kept}
use Rattle.ipdl_laws.proofs.places.replaced_there_alone.Goals as goal

pub returns : goal.returns
returns c = kept
