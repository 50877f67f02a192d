use Rattle.ipdl_laws.proofs.Monotone.{protocol_is_monotone}
use Rattle.ipdl_laws.proofs.meaning.protocol_is_monotone.Goals as goal

pub returns : goal.returns
returns c = protocol_is_monotone
