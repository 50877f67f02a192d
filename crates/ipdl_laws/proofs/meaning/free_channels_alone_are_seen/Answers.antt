use Rattle.ipdl_laws.proofs.ReadingLaws.{protocol_valuation_agree}
use Rattle.ipdl_laws.proofs.meaning.free_channels_alone_are_seen.Goals as goal

pub returns : goal.returns
returns c = protocol_valuation_agree
