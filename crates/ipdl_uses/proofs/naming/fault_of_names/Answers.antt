use Rattle.ipdl_uses.proofs.Clashes.{channel_told, names_clash}
use Rattle.ipdl_uses.proofs.naming.fault_of_names.Goals as goal

pub returns-in-NoChannel : goal.returns-in-NoChannel
returns-in-NoChannel c = λ i pairs told. channel_told i pairs c.in-NoChannel.name (rw c.in-NoChannel.is at told)

pub returns-in-NotInjective : goal.returns-in-NotInjective
returns-in-NotInjective c = λ i pairs told.
    let tells = rw c.in-NotInjective.is at told in
    names_clash i pairs c.in-NotInjective.first c.in-NotInjective.second tells.0 tells.1
