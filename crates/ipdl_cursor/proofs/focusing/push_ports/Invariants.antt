use Rattle.std.proofs.Common.{◌≡◌, ◌++◌, take}
use Rattle.ipdl_cursor.proofs.focusing.push_ports.Given as goal

abbrev pub invariant-loop-port : goal.invariant-loop-port
invariant-loop-port l = l.scope ≡ l.initial.scope ++ take l.port-index l.ports
