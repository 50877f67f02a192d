use Rattle.std.proofs.Common.{subst}
use Rattle.std.specs.List.{IsDistinct}
use Rattle.std.specs.Map.{values_of}
use Rattle.ipdl_term.specs.Channels.{same_channel}
use Rattle.ipdl_uses.proofs.Clashes.{names_pass}
use Rattle.ipdl_uses.proofs.naming.names_there.Goals as goal

pub returns-in-Ok-clause-test : goal.returns-in-Ok-clause-test
returns-in-Ok-clause-test c =
    names_pass c.args.interface.now c.args.pairs.now c.in-Ok.ensures.known
    (subst (λ pairs. IsDistinct same_channel (values_of pairs)) c.in-Ok.ensures.value c.names_are_distinct.ensures)
