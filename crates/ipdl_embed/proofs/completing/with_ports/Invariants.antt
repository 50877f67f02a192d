use Rattle.std.proofs.Common.{◌≡◌, ◌++◌, take}
use Rattle.ipdl_term.specs.Typing.{port_names}
use Rattle.ipdl_embed.specs.Pairs.{named}
use Rattle.ipdl_embed.specs.Tables.{renaming_in}
use Rattle.ipdl_embed.proofs.completing.with_ports.Given as goal

-- the channels so far have their new names
abbrev pub invariant-loop-port : goal.invariant-loop-port
invariant-loop-port l =
    l.renaming ≡ l.fn.start ++ named (renaming_in l.fn.given) (port_names (take l.port-index l.ports))
