use Rattle.std.proofs.Common.{◌≡◌, ◌++◌, drop}
use Rattle.ipdl_commands.specs.Running.{output_lines}
use Rattle.ipdl_term.specs.Typing.{port_names}
use Rattle.ipdl_commands.proofs.values.push_outputs.Given as goal

-- the lines so far are written
abbrev pub invariant-loop-port : goal.invariant-loop-port
invariant-loop-port l =
    l.fn.text.items ++ output_lines (port_names l.fn.outputs) l.fn.values
    ≡ l.text.items ++ output_lines (port_names (drop l.port-index l.fn.outputs)) l.others
