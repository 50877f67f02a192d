use Rattle.ipdl_laws.proofs.Replacing.{term_with_itself}
use Rattle.ipdl_laws.proofs.places.replaced_by_itself.Goals as goal

pub returns : goal.returns
returns c = term_with_itself
