use Rattle.ipdl_laws.proofs.TypedParts.{typed_part}
use Rattle.ipdl_laws.proofs.places.typed_part.Goals as goal

pub returns : goal.returns
returns c = typed_part
