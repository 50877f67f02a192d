-- Protocols that are told apart, and interfaces at which small ones are.
use Rattle.std.specs.Prelude.{List, [], ◌++◌, map}
use Rattle.ipdl_term.specs.Equality.{Equal}
use Rattle.ipdl_term.specs.Interpretations.{Signature}
use Rattle.ipdl_term.specs.Terms.{Channel, Protocol}
use Rattle.ipdl_term.specs.Typing.{scope_of, port_names, HasInterface}
use Rattle.ipdl_term.specs.declared.interface.Interface.{Interface}
use Rattle.ipdl_term.specs.declared.interface.Port.{Port}

-- both typed at the interface, and not equal there
pub record AreToldApart (sig : Signature) (interface : Interface) (p q : Protocol) : Type 0 where
  pub left : HasInterface sig interface p
  pub right : HasInterface sig interface q
  pub unequal : Equal sig (scope_of (interface.inputs ++ interface.outputs)) (port_names interface.outputs) p q → ⊥

-- these outputs and no inputs
abbrev pub closed_interface : List Port → Interface
closed_interface outs = record { inputs = []; outputs = outs }

-- these inputs and outputs, each of one bit
abbrev pub one_bit_interface : (inputs outputs : List Channel) → Interface
one_bit_interface ins outs = record { inputs = one_bit_ports ins; outputs = one_bit_ports outs }
  where
    one_bit_ports : List Channel → List Port
    one_bit_ports channels = map (λ c. record { name = c; width = 1 }) channels
