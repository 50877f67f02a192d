use Rattle.ipdl_laws.proofs.Structure.{alike_by_valuations}
use Rattle.ipdl_laws.proofs.assignments.alike_by_valuations.Goals as goal

pub returns : goal.returns
returns c = alike_by_valuations
