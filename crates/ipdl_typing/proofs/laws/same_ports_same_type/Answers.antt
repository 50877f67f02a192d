use Rattle.ipdl_typing.proofs.SameInterfaces.{HasInterface-same}
use Rattle.ipdl_typing.proofs.laws.same_ports_same_type.Goals as goal

pub returns : goal.returns
returns c = HasInterface-same
