use Rattle.std.proofs.Common.{◌≡◌, drop}
use Rattle.ipdl_typing.specs.Interfaces.{missing_in}
use Rattle.ipdl_typing.proofs.protocols.check_written.Given as goal

-- the ports so far are written
abbrev pub invariant-loop-port : goal.invariant-loop-port
invariant-loop-port l = missing_in l.outputs l.visible ≡ missing_in (drop l.port-index l.outputs) l.visible
