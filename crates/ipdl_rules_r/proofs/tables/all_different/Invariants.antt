use Rattle.std.proofs.Common.{◌≡◌}
use Rattle.std.specs.Prelude.{drop}
use Rattle.ipdl_rules_r.specs.Tables.{all_different}
use Rattle.ipdl_rules_r.proofs.tables.all_different.Given as goal

abbrev pub invariant-loop-i : goal.invariant-loop-i
invariant-loop-i l = all_different l.values ≡ all_different (drop l.i l.values)
