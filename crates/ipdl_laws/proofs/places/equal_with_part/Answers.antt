use Rattle.ipdl_laws.proofs.PartLaws.{equal_with_part}
use Rattle.ipdl_laws.proofs.places.equal_with_part.Goals as goal

pub returns : goal.returns
returns c = equal_with_part
