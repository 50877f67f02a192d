use Rattle.ipdl_laws.proofs.Widths.{KeepsScope-protocol_valuation}
use Rattle.ipdl_laws.proofs.equality.typed_keeps_scope.Goals as goal

pub returns : goal.returns
returns c = KeepsScope-protocol_valuation
