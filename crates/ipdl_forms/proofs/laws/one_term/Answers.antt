use Rattle.ipdl_forms.proofs.One.{one_expression, one_reaction, one_protocol}
use Rattle.ipdl_forms.proofs.laws.one_term.Goals as goal

pub returns-clause-expressions : goal.returns-clause-expressions
returns-clause-expressions c = one_expression

pub returns-clause-reactions : goal.returns-clause-reactions
returns-clause-reactions c = one_reaction

pub returns-clause-protocols : goal.returns-clause-protocols
returns-clause-protocols c = one_protocol
