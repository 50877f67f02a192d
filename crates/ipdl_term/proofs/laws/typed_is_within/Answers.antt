use Rattle.ipdl_term.proofs.WithinLemmas.{IsExpressionWithin-typed, IsReactionWithin-typed, IsProtocolWithin-typed}
use Rattle.ipdl_term.proofs.laws.typed_is_within.Goals as goal

pub returns-clause-expression : goal.returns-clause-expression
returns-clause-expression c = IsExpressionWithin-typed

pub returns-clause-reaction : goal.returns-clause-reaction
returns-clause-reaction c = IsReactionWithin-typed

pub returns-clause-protocol : goal.returns-clause-protocol
returns-clause-protocol c = IsProtocolWithin-typed
