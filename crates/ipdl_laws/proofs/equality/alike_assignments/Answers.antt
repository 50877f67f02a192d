use Rattle.ipdl_laws.proofs.Products.{alike_assignments}
use Rattle.ipdl_laws.proofs.equality.alike_assignments.Goals as goal

pub returns : goal.returns
returns c = alike_assignments
