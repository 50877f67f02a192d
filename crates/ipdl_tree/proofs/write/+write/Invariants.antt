use Rattle.std.proofs.Common.{◌≡◌, ◌++◌, take}
use Rattle.ipdl_tree.specs.Spelling.{forest_text}
use Rattle.ipdl_tree.specs.Views.{all_located}
use Rattle.ipdl_tree.specs.WellFormed.{AreWellFormed}
use Rattle.ipdl_tree.proofs.write.+write.Given as goal

abbrev pub invariant-push_group-loop-i : goal.invariant-push_group-loop-i
invariant-push_group-loop-i l = record {
  written : l.text.items ≡ l.initial.text.items ++ forest_text (all_located (take l.i l.parts));
  well_formed : AreWellFormed (all_located (take l.i l.parts));
}
