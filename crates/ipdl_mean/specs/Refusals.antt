-- What has no network, and what tape is refused.
use Rattle.std.specs.Prelude.{◌≡◌, ℕ, ◌<◌, Bool, List, [], ◌++◌, Option, Some, length, find, slice_get}
use Rattle.ipdl_mean.specs.Closed.{Closed, body_of}
use Rattle.ipdl_term.specs.Interpretations.{Signature}
use Rattle.ipdl_term.specs.Protocols.{coins}
use Rattle.ipdl_term.specs.Terms.{Channel, Reaction, returning, flipping, reading, branching, binding, Protocol, nil, assignment, parallel, hiding}
use Rattle.ipdl_term.specs.Typing.{port_names}
use Rattle.ipdl_term.specs.declared.interface.Interface.{Interface}
use Rattle.ipdl_truth.specs.Abstract.{is_abstract, symbols_in}

-- the symbols of a term in preorder
abbrev pub symbols_in_reaction : Reaction → List ℕ
symbols_in_reaction (returning e) = symbols_in e
symbols_in_reaction (flipping w) = []
symbols_in_reaction (reading c) = []
symbols_in_reaction (branching e r s) = symbols_in e ++ (symbols_in_reaction r ++ symbols_in_reaction s)
symbols_in_reaction (binding w r s) = symbols_in_reaction r ++ symbols_in_reaction s

abbrev pub symbols_in_protocol : Protocol → List ℕ
symbols_in_protocol nil = []
symbols_in_protocol (assignment c r) = symbols_in_reaction r
symbols_in_protocol (parallel p q) = symbols_in_protocol p ++ symbols_in_protocol q
symbols_in_protocol (hiding c w p) = symbols_in_protocol p

-- the first abstract symbol that occurs
abbrev pub first_abstract : Signature → Protocol → Option ℕ
first_abstract sig p = find (is_abstract sig) (symbols_in_protocol p)

-- there are inputs, first this one
abbrev pub IsOpen : Interface → Channel → Type 0
IsOpen interface name = slice_get (port_names interface.inputs) 0 ≡ Some name

-- there are none, and an abstract symbol occurs, first this one
abbrev pub IsAbstract : Signature → Interface → Protocol → ℕ → Type 0
IsAbstract sig interface p symbol = (interface.inputs ≡ []) × (first_abstract sig p ≡ Some symbol)

-- the tape has fewer bits than the protocol has coins
abbrev pub IsShort : Closed → List Bool → (want got : ℕ) → Type 0
IsShort p tape want got = (length tape < coins (body_of p)) × (want ≡ coins (body_of p)) × (got ≡ length tape)
