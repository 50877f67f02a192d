use Rattle.ipdl_laws.proofs.ContextTyping.{equal_in_context}
use Rattle.ipdl_laws.proofs.equality.equal_in_context.Goals as goal

pub returns : goal.returns
returns c = equal_in_context
