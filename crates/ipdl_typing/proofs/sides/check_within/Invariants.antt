use Rattle.std.proofs.Common.{◌≡◌, drop}
use Rattle.ipdl_typing.specs.Checks.{lacking}
use Rattle.ipdl_typing.proofs.sides.check_within.Given as goal

-- the ports so far are there
abbrev pub invariant-loop-port : goal.invariant-loop-port
invariant-loop-port l = lacking l.ports l.fn.others ≡ lacking (drop l.port-index l.ports) l.fn.others
