use Rattle.ipdl_laws.proofs.Replacing.{equal_with_typed_part}
use Rattle.ipdl_laws.proofs.places.equal_with_typed_part.Goals as goal

pub returns : goal.returns
returns c = equal_with_typed_part
