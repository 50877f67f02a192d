use Rattle.ipdl_laws.proofs.LeastFlat.{flat_written-fixed, flat_written-least}
use Rattle.ipdl_laws.proofs.meaning.flat_rounds_reach_the_least.Goals as goal

pub returns : goal.returns
returns c = λ J nodes tape. (flat_written-fixed J nodes tape, flat_written-least J nodes tape)
