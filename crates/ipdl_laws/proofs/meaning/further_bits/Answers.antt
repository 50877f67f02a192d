use Rattle.ipdl_laws.proofs.FurtherBits.{total_doubles}
use Rattle.ipdl_laws.proofs.meaning.further_bits.Goals as goal

pub returns : goal.returns
returns c = total_doubles
