use Rattle.ipdl_uses.proofs.Usable.{usable_exactly}
use Rattle.ipdl_uses.proofs.laws.usable_exactly.Goals as goal

pub returns : goal.returns
returns c = usable_exactly
