use Rattle.ipdl_typing.proofs.Ports.{sides-SamePorts, SamePorts-sides}
use Rattle.ipdl_typing.proofs.laws.same_exactly.Goals as goal

pub returns : goal.returns
returns c = λ left right. (SamePorts-sides left right, λ same. sides-SamePorts left right same.0 same.1)
