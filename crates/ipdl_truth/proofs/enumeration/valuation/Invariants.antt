use Rattle.std.proofs.Common.{◌≡◌, ◌≤◌, ◌++◌, drop}
use Rattle.ipdl_truth.specs.FreeVariables.{total_width}
use Rattle.ipdl_truth.specs.Valuations.{valued}
use Rattle.ipdl_truth.proofs.enumeration.valuation.Given as goal

-- with the values that are left they are all
abbrev pub invariant-loop-depth : goal.invariant-loop-depth
invariant-loop-depth l = record {
  rest : l.rest ≡ total_width (drop l.depth-index l.free);
  few : l.rest ≤ 12;
  all : l.valuation.items ++ valued (drop l.depth-index l.free) l.number ≡ valued l.free l.number;
}
