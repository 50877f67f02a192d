-- What the reader says of interfaces, from what it read of their ports.
use Rattle.std.proofs.Common.{◌≡◌, ℕ, ◌≤◌, List, [], ◌++◌, length, drop, Some, sym, ap, subst, ◌∙◌}
use Rattle.std.specs.Prelude.{codes}
use Rattle.std.proofs.lemmas.List.{append-nil}
use Rattle.ipdl_term.specs.declared.interface.Interface.{Interface}
use Rattle.ipdl_term.specs.declared.interface.Port.{Port}
use Rattle.ipdl_tree.specs.declared.tree.Tree.{Tree}
use Rattle.ipdl_tree.specs.Trees.{Located, Forest}
use Rattle.ipdl_tree.specs.Views.{all_located}
use Rattle.ipdl_term.specs.Typing.{port_names}
use Rattle.ipdl_forms.specs.Items.{ArePorts, SpellsInterface, first_names}
use Rattle.ipdl_forms.specs.Lists.{head_of, operands}
use Rattle.ipdl_forms.proofs.CleanItems.{port_first_names}
use Rattle.ipdl_read_terms.proofs.Lists.{none_located}

-- all ports are read
pub ports_spelled : (before now : List (List ℕ)) (ports : List Port) (xs : List Tree) (i : ℕ) → ((more : List Port) → ArePorts now more (all_located (drop i xs)) → ArePorts before (ports ++ more) (all_located xs)) → length xs ≤ i → ArePorts before ports (all_located xs)
ports_spelled before now ports xs i spelled end =
    subst (λ ps. ArePorts before ps (all_located xs)) (append-nil ports)
    (spelled [] (subst (λ ts. ArePorts now [] ts) (sym (none_located xs i end)) tt))

-- both lists are read, the names of the first one being seen at the second
pub interface_spelled : (interface : Interface) (t u : Located) (ts us : Forest) (none seen : List (List ℕ)) → none ≡ [] → head_of t ≡ Some (codes "inputs") → operands t ≡ ts → ArePorts none interface.inputs ts → seen ≡ none ++ first_names ts → head_of u ≡ Some (codes "outputs") → operands u ≡ us → ArePorts seen interface.outputs us → SpellsInterface interface t u
interface_spelled interface t u ts us none seen first in_head ins in_ports names out_head outs out_ports =
    let ports = subst (λ before. ArePorts before interface.inputs ts) first in_ports in
    let same = names ∙ ap (λ before. before ++ first_names ts) first ∙ port_first_names [] interface.inputs ts ports in
    (in_head, subst (ArePorts [] interface.inputs) (sym ins) ports, out_head, subst (ArePorts (port_names interface.inputs) interface.outputs) (sym outs) (subst (λ before. ArePorts before interface.outputs us) same out_ports))
