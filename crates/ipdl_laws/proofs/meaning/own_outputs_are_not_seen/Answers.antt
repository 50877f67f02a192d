use Rattle.ipdl_laws.proofs.Structure.{protocol_valuation_outside}
use Rattle.ipdl_laws.proofs.meaning.own_outputs_are_not_seen.Goals as goal

pub returns : goal.returns
returns c = protocol_valuation_outside
