use Rattle.ipdl_laws.proofs.RenamedTerms.{protocol_valuation-renamed}
use Rattle.ipdl_laws.proofs.renaming.valuation_of_renamed.Goals as goal

pub returns : goal.returns
returns c = protocol_valuation-renamed
