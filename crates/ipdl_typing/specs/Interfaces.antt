-- Interfaces: as sets of ports, and as what a protocol is checked against.
use Rattle.std.specs.Prelude.{◌≡◌, ℕ, false, List, [], ◌∷◌, ◌++◌}
use Rattle.ipdl_term.specs.Terms.{Protocol}
use Rattle.ipdl_term.specs.Channels.{has}
use Rattle.ipdl_term.specs.Interpretations.{Signature}
use Rattle.ipdl_term.specs.Typing.{scope_of, port_names}
use Rattle.ipdl_term.specs.declared.interface.Interface.{Interface}
use Rattle.ipdl_term.specs.declared.interface.Port.{Port}
use Rattle.ipdl_typing.specs.Checks.{Failure, missing, checked, has_port, protocol_failures, missing_failures}
use Rattle.ipdl_typing.specs.Visible.{Entry, scope_in, writable_in, earlier_in}

-- the same ports in both, whatever their order
abbrev pub SamePorts : List Port → List Port → Type 0
SamePorts ps qs = (p : Port) → has_port ps p ≡ has_port qs p

-- no two ports have one name
abbrev pub HasEachNameOnce : List Port → Type 0
HasEachNameOnce [] = Unit {0}
HasEachNameOnce (p ∷ ps) = (has (port_names ps) p.name ≡ false) × HasEachNameOnce ps

-- the failures of a protocol at an interface: its own, and then the outputs that it does not write
abbrev pub interface_failures : Signature → Interface → Protocol → List Failure
interface_failures sig interface p =
    protocol_failures sig (scope_of (interface.inputs ++ interface.outputs)) (has (port_names interface.outputs)) [] [] p
    ++ missing_failures (port_names interface.outputs) p

-- the failures of a protocol where these channels are visible
abbrev pub failures_in : Signature → List Entry → List ℕ → Protocol → List Failure
failures_in sig es path p = protocol_failures sig (scope_in es) (writable_in es) (earlier_in es) path p

-- the ports that were not written
abbrev pub missing_in : List Port → List Entry → List Failure
missing_in [] es = []
missing_in (p ∷ ports) es = checked (has (earlier_in es) p.name) [] (missing p.name) ++ missing_in ports es
