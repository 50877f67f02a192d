use Rattle.std.proofs.Common.{◌≡◌, ◌++◌, List, drop}
use Rattle.ipdl_term.specs.declared.interface.Port.{Port}
use Rattle.ipdl_tree.specs.Views.{all_located}
use Rattle.ipdl_forms.specs.Items.{ArePorts, first_names, all_port_faults}
use Rattle.ipdl_read.proofs.interfaces.read_ports.Given as goal

abbrev pub invariant-loop-tree : goal.invariant-loop-tree
invariant-loop-tree l = record {
  spelled : (more : List Port) → ArePorts l.seen more (all_located (drop l.tree-index l.trees))
      → ArePorts l.initial.seen (l.ports ++ more) (all_located l.trees);
  names : l.initial.seen ++ first_names (all_located l.trees) ≡ l.seen ++ first_names (all_located (drop l.tree-index l.trees));
  clean : all_port_faults l.initial.seen (all_located l.trees) ≡ all_port_faults l.seen (all_located (drop l.tree-index l.trees));
}
