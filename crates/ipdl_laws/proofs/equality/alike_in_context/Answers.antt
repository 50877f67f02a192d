use Rattle.ipdl_laws.proofs.Soundness.{alike_in_context}
use Rattle.ipdl_laws.proofs.equality.alike_in_context.Goals as goal

pub returns : goal.returns
returns c = alike_in_context
