use Rattle.std.proofs.Common.{◌≡◌, ◌++◌, map, reverse, take}
use Rattle.ipdl_typing.specs.Visible.{port_entry}
use Rattle.ipdl_typing.proofs.visible.VisibleChannels.enter_ports.Given as goal

-- the ports so far are visible
abbrev pub invariant-loop-port : goal.invariant-loop-port
invariant-loop-port l =
    l.self ≡ reverse (map (port_entry l.writable) (take l.port-index l.ports)) ++ l.initial.self
