use Rattle.std.proofs.Common.{◌≡◌, nat_eq, ◌&&◌, take}
use Rattle.std.specs.Prelude.{bytes_eq}
use Rattle.std.specs.HashSet.{contains_by}
use Rattle.ipdl_term.specs.declared.interface.Port.{Port}
use Rattle.ipdl_typing.specs.Checks.{has_port}
use Rattle.ipdl_typing.proofs.sides.keys_of.Given as goal

-- the ports so far are in the set
abbrev pub invariant-loop-port : goal.invariant-loop-port
invariant-loop-port l =
    (p : Port) → contains_by (λ key. bytes_eq p.name key.0.now && nat_eq p.width key.1) l.keys ≡ has_port (take l.port-index l.ports) p
