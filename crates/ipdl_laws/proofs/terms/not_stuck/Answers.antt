use Rattle.ipdl_laws.proofs.ReadingLaws.{not_stuck}
use Rattle.ipdl_laws.proofs.terms.not_stuck.Goals as goal

pub returns : goal.returns
returns c = not_stuck
