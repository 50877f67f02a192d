use Rattle.std.proofs.Common.{◌≡◌, ◌||◌, take}
use Rattle.ipdl_term.specs.Channels.{has}
use Rattle.ipdl_term.specs.Terms.{Channel}
use Rattle.ipdl_term.specs.Typing.{port_names}
use Rattle.ipdl_embed.specs.Tables.{holds}
use Rattle.ipdl_embed.proofs.names.enter_ports.Given as goal

-- the ports so far are there
abbrev pub invariant-loop-port : goal.invariant-loop-port
invariant-loop-port l =
    (c : Channel) → holds l.names c ≡ (has (port_names (take l.port-index l.ports)) c || holds l.initial.names c)
