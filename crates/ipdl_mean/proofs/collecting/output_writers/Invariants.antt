use Rattle.std.proofs.Common.{◌≡◌, map, take}
use Rattle.ipdl_term.specs.Networks.{writer_number}
use Rattle.ipdl_term.specs.Typing.{port_names}
use Rattle.ipdl_term.specs.Views.{protocol_of}
use Rattle.ipdl_mean.proofs.collecting.output_writers.Given as goal

-- the writers of the outputs so far
abbrev pub invariant-loop-port : goal.invariant-loop-port
invariant-loop-port l =
    l.writers.items ≡ map (writer_number (protocol_of l.proto) 0) (port_names (take l.port-index l.outputs))
