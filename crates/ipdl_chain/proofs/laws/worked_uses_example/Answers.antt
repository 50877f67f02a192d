use Rattle.ipdl_chain.proofs.Lines.{worked_uses_text}
use Rattle.ipdl_chain.proofs.laws.worked_uses_example.Goals as goal

pub returns-clause-printed : goal.returns-clause-printed
returns-clause-printed c = worked_uses_text
