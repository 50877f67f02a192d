use Rattle.std.proofs.Common.{◌≡◌, ◌++◌, List, Bool, length, drop}
use Rattle.ipdl_tree.specs.Views.{all_located}
use Rattle.ipdl_forms.specs.Items.{AreValues, all_value_faults}
use Rattle.ipdl_read.proofs.symbols.read_values.Given as goal

abbrev pub invariant-loop-part : goal.invariant-loop-part
invariant-loop-part l = record {
  spelled : (more : List (List Bool)) → AreValues l.to more (all_located (drop l.part-index l.parts))
      → AreValues l.to (l.values.items ++ more) (all_located l.parts);
  count : length l.values.items ≡ l.part-index;
  clean : all_value_faults l.to (all_located l.parts) ≡ all_value_faults l.to (all_located (drop l.part-index l.parts));
}
