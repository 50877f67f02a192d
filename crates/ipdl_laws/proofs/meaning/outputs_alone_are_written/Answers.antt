use Rattle.ipdl_laws.proofs.Monotone.{WritesOnly-protocol_valuation}
use Rattle.ipdl_laws.proofs.meaning.outputs_alone_are_written.Goals as goal

pub returns : goal.returns
returns c = WritesOnly-protocol_valuation
